-- What the table holds that the code shifts the register with.
use Rattle.std.specs.Prelude.{◌≡◌, ℕ, ◌+◌, ◌*◌, ◌/◌, ◌%◌, ◌<◌, List, get_or}
use Rattle.fcs.specs.Fcs.{shifts}

-- eight rows of sixteen: row k, from 0, has each number below sixteen after 4 k + 4 shifts
pub record Steps (t : List ℕ) : Type 0 where
  pub at : (i : ℕ) → i < 128 → get_or t i 0 ≡ shifts (i / 16 * 4 + 4) (i % 16)
