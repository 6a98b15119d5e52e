-- `read_words`: the words read so far are those that stand there.
use lib.ListN.{length}
use Rattle.bus.proofs.Bytes.{Read}
use Rattle.bus.proofs.read_words.Given as goal

abbrev pub invariant-loop-i : goal.invariant-loop-i
invariant-loop-i l = Read l.from l.to l.at (length l.initial.to) l.i
