-- What computes when a case is worked out: the definitions of this crate, opened behind one name.
use Rattle.card.specs.State.{state_words, state_of, fresh, with, line}
use Rattle.card.specs.Sound.{zeros, before, afterwards, fitting, sound}
use Rattle.card.specs.Replies.{replied, refused}
use Rattle.card.specs.Registers.{control_word, station_word, base_word, counter_word, other_word, register_word}
use Rattle.card.specs.Initialization.{block_address, loaded_from, succeeded, failed, tried, initialization, init_if_asked, write_csr0}
use Rattle.card.specs.Acts.{resetting, read_at, reading, write_register, write_at, writing}
use Rattle.card.specs.Arrival.{happened, arrived, is_ours, take_in, arrival, arriving}
use Rattle.card.specs.Turning.{turned, take_turn, turn_if_on, turning}

unfoldable pub computed_state : Unit {0}
unfolding state_words state_of fresh with line
computed_state = tt

unfoldable pub computed_sound : Unit {0}
unfolding zeros before afterwards fitting sound
computed_sound = tt

unfoldable pub computed_replies : Unit {0}
unfolding replied refused
computed_replies = tt

unfoldable pub computed_registers : Unit {0}
unfolding control_word station_word base_word counter_word other_word register_word
computed_registers = tt

unfoldable pub computed_initialization : Unit {0}
unfolding block_address loaded_from succeeded failed tried initialization init_if_asked write_csr0
computed_initialization = tt

unfoldable pub computed_acts : Unit {0}
unfolding resetting read_at reading write_register write_at writing
computed_acts = tt

unfoldable pub computed_arrival : Unit {0}
unfolding happened arrived is_ours take_in arrival arriving
computed_arrival = tt

unfoldable pub computed_turning : Unit {0}
unfolding turned take_turn turn_if_on turning
computed_turning = tt

unfoldable pub computed : Unit {0}
unfolding computed_state computed_sound computed_replies computed_registers computed_initialization computed_acts computed_arrival computed_turning
computed = tt
