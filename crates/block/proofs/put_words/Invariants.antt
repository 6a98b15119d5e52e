-- `put_words`: at each word what is left to write comes to the whole.
use mathlib.Core.Path.{◌≡◌}
use Prim.Native.Nat.{◌*◌}
use lib.ListN.{drop}
use Rattle.bus.specs.Words.{overwritten}
use Rattle.block.specs.Block.{word_bytes}
use Rattle.block.proofs.put_words.Given as goal

abbrev pub invariant-loop-i : goal.invariant-loop-i
invariant-loop-i l = overwritten l.block (2 * l.i) (word_bytes (drop l.i l.words)) ≡ overwritten l.initial.block 0 (word_bytes l.words)
