-- `fcs::table::Table::new` makes a table: the entries are computed and compared one by one.
-- Assumes nothing.
use mathlib.Core.Path.{◌≡◌}
use Prim.Native.Nat.{ℕ, ◌+◌, ◌*◌, ◌/◌, ◌%◌, ◌<◌}
use native.Mathlib.Nat.{zero-add}
use lib.ListN.{get_or}
use Rattle.fcs.specs.Fcs.{fallen, shift, shifts}
use Rattle.fcs.proofs.Entries.{listed, listed_at}
use Rattle.fcs.proofs.table.Table.new.Goals as goal

-- the entry at a place
entry : ℕ → ℕ
entry i = shifts (i / 16 * 4 + 4) (i % 16)

entry_at : (i : ℕ) → i < 128 → get_or (listed entry 0 128) i 0 ≡ shifts (i / 16 * 4 + 4) (i % 16)
unfolding entry
entry_at i h = rw (listed_at entry 0 128 i h, zero-add)

pub invariant_of-result : goal.invariant_of-result
unfolding listed entry fallen shift shifts
invariant_of-result c = record { steps = record { at = entry_at } }
