-- What an entry of the table is good for.
-- Assumes nothing.
use mathlib.Core.Path.{◌≡◌, sym, ap, ap₂, ◌∙◌}
use mathlib.Core.List.{List, [], ◌∷◌}
use Prim.Native.Nat.{ℕ, zero, suc, ◌+◌, ◌-◌, ◌*◌, ◌/◌, ◌%◌, ◌≤◌, ◌<◌}
use native.Mathlib.Nat.{zero-mul, add-zero, add-suc, suc-add, le_of_suc-le-suc, not-suc-le-zero}
use native.Mathlib.Omega.{arith}
use lib.ListN.{get_or}
use lib.Bits.{bit_xor}
use Rattle.fcs.specs.Fcs.{shifts}
use Rattle.fcs.specs.Steps.{Steps}
use Rattle.fcs.proofs.Xor.{xor, assoc}
use Rattle.fcs.proofs.Shifts.{shifts_split}

-- the n values of f from i on, and each by its place
unfoldable pub listed : (ℕ → ℕ) → ℕ → ℕ → List ℕ
listed f i zero = []
listed f i (suc n) = f i ∷ listed f (suc i) n

pub listed_at : (f : ℕ → ℕ) (i n k : ℕ) → k < n → get_or (listed f i n) k 0 ≡ f (i + k)
unfolding listed
listed_at f i zero k h = absurd (not-suc-le-zero h)
listed_at f i (suc n) zero h = ap f (sym (add-zero i))
listed_at f i (suc n) (suc k) h = listed_at f (suc i) n k (le_of_suc-le-suc h) ∙ ap f (suc-add i k ∙ sym (add-suc i k))

-- four shifts for each row that is left are the last row's entry at the low four bits, and the rows below for the others
pub row_down : (t : List ℕ) (done left row : ℕ) → Steps t → 0 < row → row ≤ 8
    → bit_xor (bit_xor done (get_or t ((row - 1) * 16 + left % 16) 0)) (shifts ((row - 1) * 4) (left / 16)) ≡ bit_xor done (shifts (row * 4) left)
unfolding xor
row_down t done left row s p h =
    ap (λ (x : ℕ). xor (xor done x) (shifts ((row - 1) * 4) (left / 16)))
    (s.at ((row - 1) * 16 + left % 16) (omega arith) ∙ ap₂ shifts (omega arith) (omega arith))
    ∙ assoc done (shifts (4 + (row - 1) * 4) (left % 16)) (shifts ((row - 1) * 4) (left / 16))
    ∙ ap (λ (x : ℕ). xor done x) (sym (shifts_split 4 ((row - 1) * 4) left) ∙ ap (λ (n : ℕ). shifts n left) (omega arith))

-- .. and once no row is left nothing is to be done
pub no_row : (done left row y : ℕ) → row ≤ 0 → bit_xor done (shifts (row * 4) left) ≡ y → bit_xor done left ≡ y
unfolding shifts
no_row done left zero y h e = sym (ap (λ (n : ℕ). bit_xor done (shifts n left)) (zero-mul 4)) ∙ e
no_row done left (suc row) y h e = absurd (not-suc-le-zero h)
