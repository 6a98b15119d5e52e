-- `fcs::table::Table::over` meets its contract: at each turn the bytes that are left come to the same register.
-- Assumes nothing.
use mathlib.Core.Path.{◌≡◌}
use Prim.Native.Nat.{◌*◌}
use lib.ListN.{drop}
use Rattle.fcs.specs.Fcs.{register}
use Rattle.fcs.proofs.table.Table.over.Given as goal

abbrev pub invariant-loop-word : goal.invariant-loop-word
invariant-loop-word l = register l.r (drop (l.word-index * 4) l.bytes) ≡ register l.c l.bytes

abbrev pub invariant-loop-byte : goal.invariant-loop-byte
invariant-loop-byte l = register l.r (drop l.byte-index l.rest) ≡ register l.c l.bytes
