-- A word at the front of the bytes may be put on the bytes after it instead: the polynomial divides a sum of few powers.
-- Assumes nothing.
use mathlib.Core.Path.{◌≡◌, refl, sym, ap, ap₂, ◌∙◌, subst}
use mathlib.Core.List.{List, [], ◌∷◌}
use Prim.Native.Nat.{ℕ, zero, suc, ◌+◌, ◌-◌, ◌*◌, ◌/◌, ◌%◌, ◌^◌, ◌≤◌, ◌<◌}
use native.Mathlib.Nat.{add-suc, zero-mul, add-sub_of_le, mul_assoc, mul_comm}
use native.Mathlib.Omega.{arith}
use native.Mathlib.Numerals.{add-one}
use lib.Arith.{lt-one}
use lib.Pow.{split, shr_lt}
use Rattle.fcs.specs.Fcs.{fallen, shift, shifts}
use Rattle.fcs.proofs.Xor.{xor, assoc, comm, swap, zero_left, joined, xor_up}
use Rattle.fcs.proofs.Shifts.{shifts_xor, shifts_add, shifts_up, shifts_join, shifts_split, shifts_zero}

-- w moved up by each of some counts, all of it put on m
unfoldable pub spread : List ℕ → ℕ → ℕ → ℕ
spread [] w m = m
spread (e ∷ es) w m = xor (w * 2 ^ e) (spread es w m)

pub spread_on : (es : List ℕ) (w m : ℕ) → spread es w m ≡ xor (spread es w 0) m
unfolding spread
spread_on [] w m = sym (zero_left m)
spread_on (e ∷ es) w m = ap (λ (x : ℕ). xor (w * 2 ^ e) x) (spread_on es w m) ∙ sym (assoc (w * 2 ^ e) (spread es w 0) m)

-- moving up is linear: a bit and the bits above it apart
spread_bit : (es : List ℕ) (q r : ℕ) → r < 2 → spread es (q * 2 ^ 1 + r) 0 ≡ xor (spread es r 0) (spread es q 0 * 2 ^ 1)
unfolding spread
spread_bit [] q r h = sym (zero_left 0)
spread_bit (e ∷ es) q r h =
    ap₂ xor
    (ap (λ (x : ℕ). x * 2 ^ e) (sym (joined 1 q r h) ∙ comm (q * 2 ^ 1) r) ∙ sym (xor_up e r (q * 2 ^ 1)) ∙ ap (λ (x : ℕ). xor (r * 2 ^ e) x) moved)
    (spread_bit es q r h)
    ∙ swap (r * 2 ^ e) (q * 2 ^ e * 2 ^ 1) (spread es r 0) (spread es q 0 * 2 ^ 1)
    ∙ ap (λ (x : ℕ). xor (xor (r * 2 ^ e) (spread es r 0)) x) (xor_up 1 (q * 2 ^ e) (spread es q 0))
  where
    moved : q * 2 ^ 1 * 2 ^ e ≡ q * 2 ^ e * 2 ^ 1
    moved = mul_assoc q (2 ^ 1) (2 ^ e) ∙ ap (λ (x : ℕ). q * x) (mul_comm (2 ^ 1) (2 ^ e)) ∙ sym (mul_assoc q (2 ^ e) (2 ^ 1))

spread_zero : (es : List ℕ) → spread es 0 0 ≡ 0
unfolding spread xor
spread_zero [] = refl
spread_zero (e ∷ es) = ap₂ xor (zero-mul (2 ^ e)) (spread_zero es)

-- where the bit 1 may be spread, so may every number of k bits that stands k bits further from the end
module _ (es : List ℕ) (up top : ℕ) (one : shifts (up + top) 1 ≡ shifts top (spread es 1 0)) where
  bit : (k b : ℕ) → b < 2 → shifts (up + top + k) b ≡ shifts (top + k) (spread es b 0)
  bit k zero h = shifts_zero (up + top + k) ∙ sym (ap (λ (x : ℕ). shifts (top + k) x) (spread_zero es) ∙ shifts_zero (top + k))
  bit k (suc zero) h = shifts_add (up + top) k 1 ∙ ap (λ (x : ℕ). shifts k x) one ∙ sym (shifts_add top k (spread es 1 0))
  bit k (suc (suc b)) h = omega arith

  pub spread_word : (k w : ℕ) → w < 2 ^ k → shifts (up + top + k) w ≡ shifts (top + k) (spread es w 0)
  spread_word zero w h = subst (λ (x : ℕ). shifts (up + top + 0) x ≡ shifts (top + 0) (spread es x 0)) (sym (lt-one h)) (bit 0 0 (omega arith))
  spread_word (suc k) w h =
      ap (λ (n : ℕ). shifts n w) (add-suc (up + top) k ∙ sym (one_more (up + top + k)))
      ∙ shifts_split 1 (up + top + k) w
      ∙ ap₂ xor (ap (λ (n : ℕ). shifts n (w % 2 ^ 1)) (one_more (up + top + k) ∙ sym (add-suc (up + top) k)) ∙ bit (suc k) (w % 2) (omega arith))
      (spread_word k (w / 2) (shr_lt k 1 (subst (λ (n : ℕ). w < 2 ^ n) (sym (add-one k)) h)))
      ∙ ap (λ (x : ℕ). xor (shifts (top + suc k) (spread es (w % 2) 0)) x) (sym (shifts_up 1 (top + k) (spread es (w / 2) 0)) ∙ ap (λ (n : ℕ). shifts n (spread es (w / 2) 0 * 2 ^ 1)) (one_more (top + k) ∙ sym (add-suc top k)))
      ∙ sym (shifts_xor (top + suc k) (spread es (w % 2) 0) (spread es (w / 2) 0 * 2 ^ 1))
      ∙ ap (λ (x : ℕ). shifts (top + suc k) x) (sym (spread_bit es (w / 2) (w % 2) (omega arith)) ∙ ap (λ (x : ℕ). spread es x 0) (split w 1))
    where
      one_more : (n : ℕ) → 1 + n ≡ suc n
      one_more n = omega arith

-- the distances at which a word is put on the bytes after it, from the word's own end on
unfoldable pub taps : List ℕ
taps = 81 ∷ 119 ∷ 236 ∷ 147 ∷ []

divides : shifts (64 + 236) 1 ≡ shifts 236 (spread taps 1 0)
unfolding taps spread xor fallen shift shifts
divides = refl

-- a word with R above it, far from the end
pub fold_word : (m w R : ℕ) → 300 ≤ m → w < 2 ^ 64 → shifts (64 + m) (R * 2 ^ 64 + w) ≡ shifts m (spread taps w R)
fold_word m w R l h =
    shifts_join 64 m R w h
    ∙ ap (λ (x : ℕ). xor x (shifts m R)) (near ∙ ap (λ (n : ℕ). shifts n (spread taps w 0)) (add-sub_of_le l))
    ∙ sym (shifts_xor m (spread taps w 0) R)
    ∙ ap (λ (x : ℕ). shifts m x) (sym (spread_on taps w R))
  where
    near : shifts (64 + m) w ≡ shifts (300 + (m - 300)) (spread taps w 0)
    near =
        ap (λ (n : ℕ). shifts n w) far
        ∙ shifts_add 364 (m - 300) w
        ∙ ap (λ (x : ℕ). shifts (m - 300) x) (spread_word taps 64 236 divides 64 w h)
        ∙ sym (shifts_add 300 (m - 300) (spread taps w 0))
      where
        far : 64 + m ≡ 364 + (m - 300)
        far = omega arith
