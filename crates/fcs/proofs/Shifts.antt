-- Shifts of the register are linear: over xor, over a count in two parts, and over a number in two parts.
-- Assumes nothing.
use mathlib.Core.Path.{◌≡◌, refl, sym, ap, ap₂, ◌∙◌}
use Prim.Native.Nat.{ℕ, zero, suc, ◌+◌, ◌*◌, ◌/◌, ◌%◌, ◌^◌, ◌<◌}
use native.Mathlib.Nat.{mod-lt, suc-add, zero-add, mul-one, mul_assoc, pow-suc, mul-div_cancel, mul-mod_left}
use native.Mathlib.Omega.{arith}
use lib.Bits.{bit_xor, xor_lt}
use lib.Pow.{split, pow_pos, shr_lt}
use mir.Syntax.{w32}
use mir.Val.{Fits}
use Rattle.fcs.specs.Fcs.{fallen, shift, shifts}
use Rattle.fcs.proofs.Xor.{xor, xor_half, xor_odd, swap, comm, zero_left, joined}

fallen_xor : (x y : ℕ) → x < 2 → y < 2 → fallen (xor x y) ≡ xor (fallen x) (fallen y)
unfolding fallen xor
fallen_xor zero y hx hy = refl
fallen_xor (suc zero) zero hx hy = refl
fallen_xor (suc zero) (suc zero) hx hy = refl
fallen_xor (suc zero) (suc (suc y)) hx hy = omega arith
fallen_xor (suc (suc x)) y hx hy = omega arith

-- one shift, by its definition
step : (c : ℕ) → shift c ≡ xor (fallen (c % 2)) (c / 2)
unfolding shift xor
step c = refl

shift_xor : (a b : ℕ) → shift (xor a b) ≡ xor (shift a) (shift b)
shift_xor a b =
    step (xor a b)
    ∙ ap₂ (λ (x y : ℕ). xor (fallen x) y) (xor_odd a b) (xor_half a b)
    ∙ ap (λ (x : ℕ). xor x (xor (a / 2) (b / 2))) (fallen_xor (a % 2) (b % 2) (omega arith) (omega arith))
    ∙ swap (fallen (a % 2)) (fallen (b % 2)) (a / 2) (b / 2)
    ∙ sym (ap₂ xor (step a) (step b))

pub shifts_xor : (n a b : ℕ) → shifts n (xor a b) ≡ xor (shifts n a) (shifts n b)
unfolding shifts
shifts_xor zero a b = refl
shifts_xor (suc n) a b = ap (λ (x : ℕ). shifts n x) (shift_xor a b) ∙ shifts_xor n (shift a) (shift b)

pub shifts_add : (m n c : ℕ) → shifts (m + n) c ≡ shifts n (shifts m c)
unfolding shifts
shifts_add zero n c = ap (λ (k : ℕ). shifts k c) (zero-add n)
shifts_add (suc m) n c = ap (λ (k : ℕ). shifts k c) (suc-add m n) ∙ shifts_add m n (shift c)

-- a number that stands k bits up comes down in k shifts
shift_double : (q : ℕ) → shift (q * 2) ≡ q
unfolding fallen
shift_double q =
    step (q * 2)
    ∙ ap₂ (λ (x y : ℕ). xor (fallen x) y) (mul-mod_left q 2) (mul-div_cancel q (omega arith))
    ∙ zero_left q

pub shifts_up : (k n q : ℕ) → shifts (k + n) (q * 2 ^ k) ≡ shifts n q
unfolding shifts
shifts_up zero n q = ap₂ shifts (zero-add n) (mul-one q)
shifts_up (suc k) n q =
    ap₂ shifts (suc-add k n) (ap (λ (x : ℕ). q * x) (pow-suc 2 k) ∙ sym (mul_assoc q (2 ^ k) 2))
    ∙ ap (λ (x : ℕ). shifts (k + n) x) (shift_double (q * 2 ^ k))
    ∙ shifts_up k n q

-- a number with r in its k low bits and q above them
pub shifts_join : (k n q r : ℕ) → r < 2 ^ k → shifts (k + n) (q * 2 ^ k + r) ≡ xor (shifts (k + n) r) (shifts n q)
shifts_join k n q r h =
    ap (λ (x : ℕ). shifts (k + n) x) (sym (joined k q r h) ∙ comm (q * 2 ^ k) r)
    ∙ shifts_xor (k + n) r (q * 2 ^ k)
    ∙ ap (λ (x : ℕ). xor (shifts (k + n) r) x) (shifts_up k n q)

-- .. and a number by its k low bits and the rest
pub shifts_split : (k n c : ℕ) → shifts (k + n) c ≡ xor (shifts (k + n) (c % 2 ^ k)) (shifts n (c / 2 ^ k))
shifts_split k n c =
    ap (λ (x : ℕ). shifts (k + n) x) (sym (split c k))
    ∙ shifts_join k n (c / 2 ^ k) (c % 2 ^ k) (mod-lt c (pow_pos k))

pub shifts_zero : (n : ℕ) → shifts n 0 ≡ 0
unfolding shifts shift fallen
shifts_zero zero = refl
shifts_zero (suc n) = shifts_zero n

-- a word of 64 bits by its halves
pub shifts_halves : (w u v : ℕ) → u ≡ shifts 32 (w % 2 ^ 32) → v ≡ shifts 32 (bit_xor u (w / 2 ^ 32)) → v ≡ shifts 64 w
unfolding xor shifts
shifts_halves w u v p q = q ∙ ap (λ (x : ℕ). shifts 32 (xor x (w / 2 ^ 32))) p ∙ ap (λ (x : ℕ). shifts 32 x) (sym (shifts_split 32 0 w)) ∙ sym (shifts_add 32 32 w)

-- the high half of a word that another is put on
pub high_half : (a b : ℕ) → a < 2 ^ 64 → b < 2 ^ 64 → Fits w32 (bit_xor a b / 0x100000000)
high_half a b h k = record { fits = shr_lt 32 32 (xor_lt 64 a b h k) }
