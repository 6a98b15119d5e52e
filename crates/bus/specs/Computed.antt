-- What computes when a case is worked out: the definitions of this crate, opened behind one name.
use Rattle.bus.specs.Bits.{weigh}
use Rattle.bus.specs.Words.{little, bytes_of, part, words_at, overwritten}
use Rattle.bus.specs.Bus.{run, ◌>>=◌, ◌>>◌, reads, bytes, words, empty_handed, leaves}

unfoldable pub computed_bits : Unit {0}
unfolding weigh
computed_bits = tt

unfoldable pub computed_words : Unit {0}
unfolding little bytes_of part words_at overwritten
computed_words = tt

unfoldable pub computed_bus : Unit {0}
unfolding run ◌>>=◌ ◌>>◌ reads bytes words empty_handed leaves
computed_bus = tt

unfoldable pub computed : Unit {0}
unfolding computed_bits computed_words computed_bus
computed = tt
