-- A list in pieces of one size, and the pieces joined again.
-- Assumes nothing.
use mathlib.Core.Path.{◌≡◌, sym, ap, ap₂, ◌∙◌}
use mathlib.Core.List.{List, [], ◌∷◌, ◌++◌}
use Prim.Native.Nat.{ℕ, zero, suc, ◌*◌, ◌≤◌, ◌<◌}
use native.Mathlib.Nat.{zero-mul, not-suc-le-zero, le_of_suc-le-suc}
use native.Mathlib.Omega.{arith}
use lib.ListN.{length, get_or, take, drop, take-append-drop}
use lib.Seq.{take-add, drop-drop}
use Rattle.std.specs.List.{flat_map}
use Rattle.std.specs.Simd.{first_chunks}
use Rattle.std.proofs.lemmas.Grind.{flat_map-append}
use Rattle.std.proofs.lemmas.List.{append_assoc, append-nil}

joined : {X : Type 0} (n k : ℕ) (xs : List X) → flat_map (λ (c : List X). c) (first_chunks n k xs) ≡ take (k * n) xs
joined n zero xs = ap (λ (m : ℕ). take m xs) (sym (zero-mul n))
joined n (suc k) xs =
    ap (λ (ys : List _). take n xs ++ ys) (joined n k (drop n xs))
    ∙ sym (take-add n (k * n) xs)
    ∙ ap (λ (m : ℕ). take m xs) (omega arith)

all : {X : Type 0} (n k : ℕ) (xs : List X) → flat_map (λ (c : List X). c) (first_chunks n k xs) ++ drop (k * n) xs ≡ xs
all n k xs = ap (λ (ys : List _). ys ++ drop (k * n) xs) (joined n k xs) ∙ take-append-drop (k * n) xs

from_place : {X : Type 0} (n k i : ℕ) (xs : List X) → i ≤ k → flat_map (λ (c : List X). c) (drop i (first_chunks n k xs)) ++ drop (k * n) xs ≡ drop (i * n) xs
from_place n k zero xs h = all n k xs ∙ ap (λ (m : ℕ). drop m xs) (sym (zero-mul n))
from_place n zero (suc i) xs h = absurd (not-suc-le-zero h)
from_place n (suc k) (suc i) xs h =
    ap (λ (ys : List _). flat_map (λ (c : List _). c) (drop i (first_chunks n k (drop n xs))) ++ ys) (further k)
    ∙ from_place n k i (drop n xs) (le_of_suc-le-suc h)
    ∙ sym (further i)
  where
    further : (m : ℕ) → drop (suc m * n) xs ≡ drop (m * n) (drop n xs)
    further m = ap (λ (j : ℕ). drop j xs) (omega arith) ∙ sym (drop-drop (m * n) n xs)

-- the pieces from a place on, with what fills none, are a part of the list
pub chunks_from : {X : Type 0} (n k i : ℕ) (xs rest : List X) (cs near : List (List X)) → cs ≡ first_chunks n k xs → rest ≡ drop (k * n) xs → near ≡ drop i cs → i ≤ k
    → flat_map (λ (c : List X). c) near ++ rest ≡ drop (i * n) xs
chunks_from n k i xs rest cs near p q r h =
    ap₂ (λ (x : List (List _)) (y : List _). flat_map (λ (c : List _). c) x ++ y) (r ∙ ap (drop i) p) q ∙ from_place n k i xs h

-- two parts of the pieces, and what fills none
pub two_parts : {X : Type 0} (far near : List (List X)) (rest : List X) → flat_map (λ (c : List X). c) far ++ (flat_map (λ (c : List X). c) near ++ rest) ≡ flat_map (λ (c : List X). c) (far ++ near) ++ rest
two_parts far near rest = grind (arith, append_assoc, flat_map-append)

-- each of them by its place
pub chunk_at : {X : Type 0} (n k i : ℕ) (d : List X) (xs : List X) → i < k → get_or (first_chunks n k xs) i d ≡ take n (drop (i * n) xs)
chunk_at n zero i d xs h = absurd (not-suc-le-zero h)
chunk_at n (suc k) zero d xs h = ap (λ (m : ℕ). take n (drop m xs)) (sym (zero-mul n))
chunk_at n (suc k) (suc i) d xs h =
    chunk_at n k i d (drop n xs) (le_of_suc-le-suc h)
    ∙ ap (take n) (drop-drop (i * n) n xs ∙ ap (λ (m : ℕ). drop m xs) (omega arith))

-- five of them, one after another
pub five_chunks : {X : Type 0} (cs : List (List X)) (ys : List X) → length cs ≡ 5
    → get_or cs 0 [] ++ (get_or cs 1 [] ++ (get_or cs 2 [] ++ (get_or cs 3 [] ++ (get_or cs 4 [] ++ ys)))) ≡ flat_map (λ (c : List X). c) cs ++ ys
five_chunks (a ∷ b ∷ c ∷ d ∷ e ∷ []) ys h = grind (arith, append_assoc, append-nil)
five_chunks [] ys h = absurd (omega arith)
five_chunks (a ∷ []) ys h = absurd (omega arith)
five_chunks (a ∷ b ∷ []) ys h = absurd (omega arith)
five_chunks (a ∷ b ∷ c ∷ []) ys h = absurd (omega arith)
five_chunks (a ∷ b ∷ c ∷ d ∷ []) ys h = absurd (omega arith)
five_chunks (a ∷ b ∷ c ∷ d ∷ e ∷ f ∷ cs) ys h = absurd (omega arith)
