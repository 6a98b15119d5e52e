-- Laws of bit_xor that the other files lean on, over a shut name for it, so that the checker finds a law's arguments.
-- Assumes nothing.
use mathlib.Core.Path.{◌≡◌, refl, sym, ap, ap₂, ◌∙◌}
use Prim.Native.Nat.{ℕ, ◌+◌, ◌*◌, ◌/◌, ◌%◌, ◌^◌, ◌<◌}
use native.Mathlib.Nat.{add-zero}
use lib.Bits.{bit_xor, xor_comm, xor_shifted, xor_block}
use lib.Pow.{pow_pos}
use Rattle.std.specs.Int.Bits.{xor_assoc}
use Rattle.std.proofs.lemmas.Nat.{xor_shr, xor_mod}

-- bit_xor, shut
unfoldable pub xor : ℕ → ℕ → ℕ
xor a b = bit_xor a b

pub zero_left : (a : ℕ) → xor 0 a ≡ a
unfolding xor
zero_left a = refl

-- the bits above the lowest, and the lowest
pub xor_half : (a b : ℕ) → xor a b / 2 ≡ xor (a / 2) (b / 2)
unfolding xor
xor_half a b = xor_shr a b 1

pub xor_odd : (a b : ℕ) → xor a b % 2 ≡ xor (a % 2) (b % 2)
unfolding xor
xor_odd a b = xor_mod a b 1

pub assoc : (a b c : ℕ) → xor (xor a b) c ≡ xor a (xor b c)
unfolding xor
assoc a b c = xor_assoc a b c

pub comm : (a b : ℕ) → xor a b ≡ xor b a
unfolding xor
comm a b = xor_comm a b

-- the inner two of four change places
pub swap : (a b c d : ℕ) → xor (xor a b) (xor c d) ≡ xor (xor a c) (xor b d)
swap a b c d =
    assoc a b (xor c d)
    ∙ ap (λ (x : ℕ). xor a x) (sym (assoc b c d) ∙ ap (λ (x : ℕ). xor x d) (comm b c) ∙ assoc c b d)
    ∙ sym (assoc a c (xor b d))

-- xor of a number that stands above another's k bits is their sum
pub joined : (k q r : ℕ) → r < 2 ^ k → xor (q * 2 ^ k) r ≡ q * 2 ^ k + r
unfolding xor
joined k q r h = xor_shifted q k r h

-- xor passes through a move up by k bits
pub xor_up : (k a b : ℕ) → xor (a * 2 ^ k) (b * 2 ^ k) ≡ xor a b * 2 ^ k
unfolding xor
xor_up k a b =
    ap₂ bit_xor (sym (add-zero (a * 2 ^ k))) (sym (add-zero (b * 2 ^ k)))
    ∙ xor_block k a b 0 0 (pow_pos k) (pow_pos k)
    ∙ add-zero (bit_xor a b * 2 ^ k)
