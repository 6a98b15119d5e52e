-- What the tests of a block come to, in the definitions' words, and that a block opens by four tests.
use mathlib.Core.Path.{◌≡◌, refl, sym, ap, ap₂, ◌∙◌}
use mathlib.Core.Bool.{Bool, true, false, ◌&&◌, and_assoc, and-eq-true_iff}
use mathlib.Core.List.{List, [], ◌∷◌, ◌++◌}
use Prim.Native.Nat.{ℕ, zero, suc, ◌+◌, ◌-◌, ◌*◌, ◌/◌, ◌%◌, ◌≤◌, ◌<◌}
use native.Mathlib.Nat.{add-zero}
use native.Mathlib.Omega.{arith}
use native.Mathlib.Numerals.{add-one}
use lib.ListN.{length, get_or, take, drop, replicate}
use lib.Pointwise.{pointwise}
use lib.Seq.{drop-cons}
use lib.Dec.{eqb}
use Rattle.std.specs.Prelude.{if◌then◌else◌, Option, Some, None}
use Rattle.std.proofs.lemmas.Bool.{cond-true, cond-false, false_from_ne_true}
use Rattle.std.proofs.lemmas.Option.{cond_some}
use mir.Syntax.{w8}
use mir.Val.{Fits}
use borrow.Author.Tests.{eq-eqb, ne_eqb, eqb-true, eqb-false}
use Rattle.fcs.specs.Fcs.{right_fcs}
use Rattle.bus.specs.Words.{joined, bytes_of, words_at}
use Rattle.card.specs.declared.Card.{Card}
use Rattle.card.specs.State.{WORDS, state_words}
use Rattle.card.specs.Sound.{sound}
use Rattle.block.specs.Block.{BYTES, CHECKED, word_bytes, unused, body_of, state_in, holds, opens, opened}
use Rattle.block.proofs.Places.{length_state}

-- two tests that come to one
two_are : (p q t h : Bool) → (p ≡ true → q ≡ true → t ≡ true) → (p ≡ false → t ≡ false) → (q ≡ false → t ≡ false)
    → (p && (q && h)) ≡ (t && h)
two_are true true t h f g k = ap (λ (x : Bool). x && h) (sym (f refl refl))
two_are true false t h f g k = ap (λ (x : Bool). x && h) (sym (k refl))
two_are false q t h f g k = ap (λ (x : Bool). x && h) (sym (g refl))

-- a word is known by its bytes
parts : (x y w : ℕ) (h : Bool) → x < 256 → y < 256 → w < 65536
    → (eqb x (w % 256) && (eqb y (w / 256 % 256) && h)) ≡ (eqb (joined x y) w && h)
parts x y w h lx ly lw =
    two_are (eqb x (w % 256)) (eqb y (w / 256 % 256)) (eqb (x + 256 * y) w) h
    (λ p q. eq-eqb (x + 256 * y) w (omega (arith, eqb-true x (w % 256) p, eqb-true y (w / 256 % 256) q)))
    (λ p. ne_eqb (x + 256 * y) w (λ e. eqb-false x (w % 256) p (omega arith)))
    (λ q. ne_eqb (x + 256 * y) w (λ e. eqb-false y (w / 256 % 256) q (omega arith)))

-- a word is there
word_there : (b : List ℕ) (i w : ℕ) (bs : List ℕ) → get_or b i 0 < 256 → get_or b (i + 1) 0 < 256 → w < 65536
    → holds b i (bytes_of 2 w ++ bs) ≡ (eqb (joined (get_or b i 0) (get_or b (i + 1) 0)) w && holds b (i + 2) bs)
unfolding holds bytes_of
word_there b i w bs lx ly lw =
    let m : i + 2 ≡ suc (i + 1) = omega arith in
    rw (m, ← add-one i) (parts (get_or b i 0) (get_or b (i + 1) 0) w (holds b (suc (i + 1)) bs) lx ly lw)

-- the words that stand there are these
head_at : (k i : ℕ) (b ws : List ℕ) → length ws ≡ k → ((j : ℕ) → Fits w8 (get_or b j 0)) → ((j : ℕ) → get_or ws j 0 < 65536)
    → pointwise eqb (words_at b i k) ws ≡ holds b i (word_bytes ws)
unfolding words_at word_bytes holds
head_at zero i b [] e f g = refl
head_at zero i b (w ∷ ws) e f g = absurd (omega arith)
head_at (suc k) i b [] e f g = absurd (omega arith)
head_at (suc k) i b (w ∷ ws) e f g =
    let one : suc i ≡ i + 1 = omega arith in
    let two : suc (i + 1) ≡ i + 2 = omega arith in
    rw (one, two, head_at k (i + 2) b ws (omega arith) f (λ j. g (suc j)))
    (sym (word_there b i w (word_bytes ws) (f i).fits (f (i + 1)).fits (g 0)))

pub head_is : (b ws xs : List ℕ) (r : Bool) → r ≡ pointwise eqb xs ws → xs ≡ words_at b 0 WORDS → length ws ≡ WORDS → ((j : ℕ) → Fits w8 (get_or b j 0))
    → ((j : ℕ) → get_or ws j 0 < 65536) → r ≡ holds b 0 (word_bytes ws)
head_is b ws xs r e x l f g = e ∙ ap (λ (l : List ℕ). pointwise eqb l ws) x ∙ head_at WORDS 0 b ws l f g

-- bytes that are there, and the unused ones
same_at : (xs b : List ℕ) (i : ℕ) → i + length xs ≤ length b → pointwise eqb (take (length xs) (drop i b)) xs ≡ holds b i xs
unfolding holds
same_at [] b i h = refl
same_at (x ∷ xs) b i h =
    let here : i < length b = omega arith in
    ap (λ (l : List ℕ). pointwise eqb (take (suc (length xs)) l) (x ∷ xs)) (drop-cons b i 0 here)
    ∙ ap (λ (t : Bool). eqb (get_or b i 0) x && t) (same_at xs b (suc i) (omega arith))

pub rest_is : (b : List ℕ) (r : Bool) → r ≡ pointwise eqb (take (CHECKED - 2 * WORDS) (drop (2 * WORDS) b)) (replicate (CHECKED - 2 * WORDS) 0) → CHECKED ≤ length b
    → r ≡ holds b (2 * WORDS) unused
unfolding unused
rest_is b r e h = e ∙ same_at unused b (2 * WORDS) (omega arith)

-- bytes that are there before others
holds_then : (xs ys b : List ℕ) (i : ℕ) → holds b i (xs ++ ys) ≡ (holds b i xs && holds b (i + length xs) ys)
unfolding holds
holds_then [] ys b i = rw (add-zero i)
holds_then (x ∷ xs) ys b i =
    let e : i + suc (length xs) ≡ suc i + length xs = omega arith in
    rw (e, holds_then xs ys b (suc i)) (sym (and_assoc (eqb (get_or b i 0) x) (holds b (suc i) xs) (holds b (suc i + length xs) ys)))

-- the bytes that the check is made of are the state's and the unused ones
body_parts : (b : List ℕ) (c : Card) → holds b 0 (body_of c) ≡ (holds b 0 (word_bytes (state_words c)) && holds b (2 * WORDS) unused)
unfolding body_of
body_parts b c =
    let e : 0 + length (word_bytes (state_words c)) ≡ 2 * WORDS = omega (arith, length_state c) in
    holds_then (word_bytes (state_words c)) unused b 0 ∙ rw e

-- a block of another length, and one of this length
pub no_block : (b : List ℕ) → (length b ≡ BYTES → ⊥) → false ≡ opens b
unfolding opens
no_block b h = rw (ne_eqb (length b) BYTES h)

pub open_is : (b ws : List ℕ) (c : Card) (f h z s : Bool) → length b ≡ BYTES → c ≡ state_in b → ws ≡ state_words c → f ≡ right_fcs b
    → h ≡ holds b 0 (word_bytes ws) → z ≡ holds b (2 * WORDS) unused → s ≡ sound c → (f && h && z && s) ≡ opens b
unfolding opens
open_is b ws c f h z s n ec ew ef eh ez es =
    let k : (h && z) ≡ holds b 0 (body_of (state_in b)) =
    ap₂ ◌&&◌ (eh ∙ ap (λ (l : List ℕ). holds b 0 (word_bytes l)) ew) ez ∙ sym (body_parts b c) ∙ ap (λ (x : Card). holds b 0 (body_of x)) ec in
    ap (λ (t : Bool). t && s) (and_assoc f h z)
    ∙ rw (eq-eqb (length b) BYTES n, k, ef, es, ec)

-- what opens by all four tests
module _ (b : List ℕ) (o : opens b ≡ true) where
  three : (eqb (length b) BYTES && right_fcs b && holds b 0 (body_of (state_in b))) ≡ true
  unfolding opens
  three = ((and-eq-true_iff (eqb (length b) BYTES && right_fcs b && holds b 0 (body_of (state_in b))) (sound (state_in b))).0 o).0

  two : (eqb (length b) BYTES && right_fcs b) ≡ true
  two = ((and-eq-true_iff (eqb (length b) BYTES && right_fcs b) (holds b 0 (body_of (state_in b)))).0 three).0

  pub opened_long : length b ≡ BYTES
  opened_long = eqb-true (length b) BYTES ((and-eq-true_iff (eqb (length b) BYTES) (right_fcs b)).0 two).0

  pub opened_right : right_fcs b ≡ true
  opened_right = ((and-eq-true_iff (eqb (length b) BYTES) (right_fcs b)).0 two).1

  pub opened_holds : holds b 0 (body_of (state_in b)) ≡ true
  opened_holds = ((and-eq-true_iff (eqb (length b) BYTES && right_fcs b) (holds b 0 (body_of (state_in b)))).0 three).1

-- a block that opens has its length, enough for the state's words
module _ (b : List ℕ) (o : Bool) (e : o ≡ opens b) (t : o ≡ true) where
  pub open_long : length b ≡ BYTES
  open_long = opened_long b (sym e ∙ t)

  pub open_enough : 2 * WORDS ≤ length b
  open_enough = omega (arith, open_long)

-- `opened` hands back the state of a block that opens, and none of any other
module _ (b : List ℕ) (o : Option Card) (e : o ≡ opened b) where
  some_opens : (c : Card) → o ≡ Some c → (opens b ≡ true) × (state_in b ≡ c)
  unfolding opened
  some_opens c y = cond_some (opens b) (state_in b) c (sym e ∙ y)

  pub some_long : (c : Card) → o ≡ Some c → length b ≡ BYTES
  some_long c y = opened_long b (some_opens c y).0

  -- .. so what asks whether a block opens goes by its answer
  module _ {A : Type 0} where
    pub goes_some : (f : Card → A) (x : A) (c : Card) → o ≡ Some c → (if opens b then f (state_in b) else x) ≡ f c
    goes_some f x c y = cond-true (opens b) (f (state_in b)) x (some_opens c y).0 ∙ ap f (some_opens c y).1

    pub goes_none : (x y : A) → ((c : Card) → o ≡ Some c → ⊥) → (if opens b then x else y) ≡ y
    unfolding opened
    goes_none x y n =
        cond-false (opens b) x y
        (false_from_ne_true (opens b) (λ t. n (state_in b) (e ∙ cond-true (opens b) (Some (state_in b)) None t)))
