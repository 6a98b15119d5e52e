-- Bits of a number.
use Rattle.std.specs.Prelude.{ℕ, ◌/◌, ◌%◌, Bool, true, false, eqb}

-- the bit of a number that weighs w
abbrev pub bit : ℕ → ℕ → Bool
bit x w = eqb (x / w % 2) 1

-- what a bit that weighs w adds to a number
unfoldable pub weigh : Bool → ℕ → ℕ
weigh true w = w
weigh false w = 0
