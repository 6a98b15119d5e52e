-- A word that is moved up, in words of 64 bits, and put on other words.
-- Assumes nothing.
use mathlib.Core.Path.{◌≡◌, refl, sym, ap, ap₂, ◌∙◌}
use mathlib.Core.List.{List, [], ◌∷◌, ◌++◌}
use Prim.Native.Nat.{ℕ, ◌+◌, ◌-◌, ◌*◌, ◌/◌, ◌%◌, ◌^◌, ◌≤◌, ◌<◌}
use native.Mathlib.Nat.{add-zero, zero-add, mul_assoc, mod-lt, lt_of_le_of_lt, mul-div-mul_right}
use native.Mathlib.Omega.{arith}
use lib.ListN.{length}
use lib.Bits.{bit_xor, xor_block, xor_lt}
use lib.Pow.{split, pow_pos, pow-add, shr_le}
use Rattle.std.specs.Int.{sum_through, byte_worth}
use Rattle.std.specs.Prelude.{slice_index}
use Rattle.fcs.specs.Waiting.{words, after}
use Rattle.fcs.proofs.Registers.{Bytes}
use Rattle.fcs.proofs.Afters.{after_fold, word_lt}
use Rattle.fcs.proofs.Xor.{xor, comm}
use Rattle.fcs.proofs.Folds.{spread, taps}

-- every word has 64 bits
abbrev pub Small : List ℕ → Type 0
Small [] = Unit {0}
Small (w ∷ ws) = (w < 2 ^ 64) × Small ws

-- a number lies in words of 64 bits
record Lies (n : ℕ) (ws : List ℕ) : Type 0 where
  is : n ≡ words ws
  small : Small ws

-- xor word by word; what one list has more stays
unfoldable zip : List ℕ → List ℕ → List ℕ
zip [] ys = ys
zip (x ∷ xs) [] = x ∷ xs
zip (x ∷ xs) (y ∷ ys) = xor x y ∷ zip xs ys

zip_small : (xs ys : List ℕ) → Small xs → Small ys → Small (zip xs ys)
unfolding zip xor
zip_small [] ys p q = q
zip_small (x ∷ xs) [] p q = p
zip_small (x ∷ xs) (y ∷ ys) p q = (xor_lt 64 x y p.0 q.0, zip_small xs ys p.1 q.1)

zip_words : (xs ys : List ℕ) → Small xs → Small ys → xor (words xs) (words ys) ≡ words (zip xs ys)
unfolding words zip xor
zip_words [] ys p q = refl
zip_words (x ∷ xs) [] p q = comm (words (x ∷ xs)) 0
zip_words (x ∷ xs) (y ∷ ys) p q =
    xor_block 64 (words xs) (words ys) x y p.0 q.0 ∙ ap (λ (n : ℕ). n * 2 ^ 64 + xor x y) (zip_words xs ys p.1 q.1)

put : {n m : ℕ} {xs ys : List ℕ} → Lies n xs → Lies m ys → Lies (xor n m) (zip xs ys)
put {xs = xs} {ys = ys} p q =
    record { is = ap₂ xor p.is q.is ∙ zip_words xs ys p.small q.small; small = zip_small xs ys p.small q.small }

-- a word moved up by s bits lies in two words
two : (s w : ℕ) → w < 2 ^ 64 → s ≤ 64 → Lies (w * 2 ^ s) (w * 2 ^ s % 2 ^ 64 ∷ w / 2 ^ (64 - s) ∷ [])
unfolding words
two s w hw h =
    record {
      is =
          sym (split (w * 2 ^ s) 64)
          ∙ ap (λ (n : ℕ). n * 2 ^ 64 + w * 2 ^ s % 2 ^ 64)
          (ap (λ (n : ℕ). w * 2 ^ s / n) (ap (λ (n : ℕ). 2 ^ n) parts ∙ pow-add 2 (64 - s) s)
          ∙ mul-div-mul_right w (2 ^ (64 - s)) (pow_pos s)
          ∙ sym (zero-add (w / 2 ^ (64 - s))));
      small = (mod-lt (w * 2 ^ s) (pow_pos 64), (lt_of_le_of_lt (shr_le w (64 - s)) hw, tt));
    }
  where
    parts : 64 ≡ 64 - s + s
    parts = omega arith

-- .. and a whole word further
up : (s w : ℕ) {ws : List ℕ} → Lies (w * 2 ^ s) ws → Lies (w * 2 ^ (s + 64)) (0 ∷ ws)
unfolding words
up s w {ws} p =
    record {
      is = ap (λ (n : ℕ). w * n) (pow-add 2 s 64) ∙ sym (mul_assoc w (2 ^ s) (2 ^ 64)) ∙ ap (λ (n : ℕ). n * 2 ^ 64) p.is ∙ sym (add-zero (words ws * 2 ^ 64));
      small = (pow_pos 64, p.small);
    }

-- the five words after w has been spread over the four that waited behind it
abbrev pub folded : ℕ → ℕ → ℕ → ℕ → ℕ → List ℕ
folded w b c d e =
    b
    ∷ bit_xor (w * 2 ^ 17 % 2 ^ 64) (bit_xor (w * 2 ^ 55 % 2 ^ 64) c)
    ∷ bit_xor (w / 2 ^ 47) (bit_xor (w / 2 ^ 9) (bit_xor (w * 2 ^ 19 % 2 ^ 64) d))
    ∷ bit_xor (w * 2 ^ 44 % 2 ^ 64) (bit_xor (w / 2 ^ 45) e)
    ∷ w / 2 ^ 20
    ∷ []

spread_five : (w b c d e : ℕ) → w < 2 ^ 64 → Small (b ∷ c ∷ d ∷ e ∷ []) → words (folded w b c d e) ≡ spread taps w (words (b ∷ c ∷ d ∷ e ∷ []))
unfolding xor zip spread taps
spread_five w b c d e hw h =
    sym (put (up 17 w (moved 17 (omega arith))) (put (up 55 w (moved 55 (omega arith))) (put (up 172 w (up 108 w (up 44 w (moved 44 (omega arith))))) (put (up 83 w (up 19 w (moved 19 (omega arith)))) waiting)))).is
  where
    moved : (s : ℕ) → s ≤ 64 → Lies (w * 2 ^ s) (w * 2 ^ s % 2 ^ 64 ∷ w / 2 ^ (64 - s) ∷ [])
    moved s l = two s w hw l

    waiting : Lies (words (b ∷ c ∷ d ∷ e ∷ [])) (b ∷ c ∷ d ∷ e ∷ [])
    waiting = record { is = refl; small = h }

-- .. and what is to come with them, a word further on
pub after_folded : (w bs : List ℕ) (n a b c d e : ℕ) → Small (a ∷ b ∷ c ∷ d ∷ e ∷ []) → Bytes w → length w ≡ 8 → n ≡ sum_through (λ (i : ℕ). byte_worth i (slice_index w i)) 7 → 40 ≤ length bs
    → after (folded (bit_xor a n) b c d e) bs ≡ after (a ∷ b ∷ c ∷ d ∷ e ∷ []) (w ++ bs)
after_folded w bs n a b c d e h hb l p far =
    after_fold w bs a n h.0 hb l p (b ∷ c ∷ d ∷ e ∷ []) (folded (bit_xor a n) b c d e)
    (spread_five (bit_xor a n) b c d e (word_lt w bs a n h.0 hb l p) h.1) far
