-- `fcs::table::Table::shifted` meets its contract: at each turn what is done and what is left come to the shifts asked for.
-- Assumes nothing.
use mathlib.Core.Path.{◌≡◌}
use Prim.Native.Nat.{◌*◌}
use lib.Bits.{bit_xor}
use Rattle.fcs.specs.Fcs.{shifts}
use Rattle.fcs.proofs.table.Table.shifted.Given as goal

abbrev pub invariant-loop-row : goal.invariant-loop-row
invariant-loop-row l = bit_xor l.done (shifts (l.row * 4) l.left) ≡ shifts (l.count * 4) l.x
