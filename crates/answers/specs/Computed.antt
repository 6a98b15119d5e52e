-- What computes when a case is worked out: the definitions of this crate, opened behind one name.
use Rattle.answers.specs.Refusals.{first, read_tests, write_tests, arrive_tests, turn_tests, unless}
use Rattle.answers.specs.Events.{arrival_event, turn_event}

unfoldable pub computed_refusals : Unit {0}
unfolding first read_tests write_tests arrive_tests turn_tests unless
computed_refusals = tt

unfoldable pub computed_events : Unit {0}
unfolding arrival_event turn_event
computed_events = tt

unfoldable pub computed : Unit {0}
unfolding computed_refusals computed_events
computed = tt
