-- What computes when a case is worked out: the definitions of this crate, opened behind one name.
use Rattle.registers.specs.Csr0.{intr, line_of, word, changed, sound_csr0, csr0_of}
use Rattle.registers.specs.Writing.{cleared, started, enabled, demanded, finished}
use Rattle.registers.specs.Table.{no_register, locked, only_reads, kept, keep, settled}

unfoldable pub computed_csr0 : Unit {0}
unfolding intr line_of word changed sound_csr0 csr0_of
computed_csr0 = tt

unfoldable pub computed_writing : Unit {0}
unfolding cleared started enabled demanded finished
computed_writing = tt

unfoldable pub computed_table : Unit {0}
unfolding no_register locked only_reads kept keep settled
computed_table = tt

unfoldable pub computed : Unit {0}
unfolding computed_csr0 computed_writing computed_table
computed = tt
