-- Two lists, compared from the front.
-- Assumes nothing.
use Rattle.std.proofs.Common.{◌≡◌, ℕ, suc, ◌+◌, ◌<◌, ◌≤◌, Bool, true, false, ◌&&◌, eqb, List, [], ◌∷◌, length, get_or, drop, sym, refl, ap, ◌∙◌, ap₂, add-one, arith, drop_of_length-le, drop-cons, eq-eqb, ne_eqb}
use Rattle.tally.specs.Counting.{alike}

-- lists of two lengths are not
pub other_length : (xs ys : List ℕ) → (length xs ≡ length ys → ⊥) → false ≡ alike xs ys
unfolding alike
other_length [] [] h = absurd (h refl)
other_length [] (y ∷ ys) h = refl
other_length (x ∷ xs) [] h = refl
other_length (x ∷ xs) (y ∷ ys) h = sym (ap (λ (t : Bool). eqb x y && t) (sym (other_length xs ys (λ e. h (ap suc e)))) ∙ never (eqb x y))
  where
    never : (t : Bool) → (t && false) ≡ false
    never true = refl
    never false = refl

-- one element further, in two lists of one length
module _ (a b : List ℕ) (i : ℕ) (p : i < length a) (len : length a ≡ length b) where
  front : alike (drop i a) (drop i b) ≡ (eqb (get_or a i 0) (get_or b i 0) && alike (drop (suc i) a) (drop (suc i) b))
  unfolding alike
  front = ap₂ alike (drop-cons a i 0 p) (drop-cons b i 0 (omega arith))

  pub differs : (t : Bool) → alike (drop i a) (drop i b) ≡ t → (get_or a i 0 ≡ get_or b i 0 → ⊥) → false ≡ t
  differs t e h = sym (ap (λ (x : Bool). x && alike (drop (suc i) a) (drop (suc i) b)) (ne_eqb (get_or a i 0) (get_or b i 0) h)) ∙ sym front ∙ e

  pub goes_on : (t : Bool) → alike (drop i a) (drop i b) ≡ t → get_or a i 0 ≡ get_or b i 0 → alike (drop (i + 1) a) (drop (i + 1) b) ≡ t
  goes_on t e h =
      ap (λ (k : ℕ). alike (drop k a) (drop k b)) (add-one i)
      ∙ sym (ap (λ (x : Bool). x && alike (drop (suc i) a) (drop (suc i) b)) (eq-eqb (get_or a i 0) (get_or b i 0) h))
      ∙ sym front
      ∙ e

-- nothing is left of either
pub nothing_left : (a b : List ℕ) (i : ℕ) (t : Bool) → length a ≤ i → length a ≡ length b → alike (drop i a) (drop i b) ≡ t → true ≡ t
unfolding alike
nothing_left a b i t l e p =
    let m : length b ≤ i = omega arith in
    sym (ap₂ alike (drop_of_length-le a l) (drop_of_length-le b m)) ∙ p
