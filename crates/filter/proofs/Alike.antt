-- What `==` says of two addresses, in the definitions' words.
use mathlib.Core.Path.{◌≡◌, refl, sym, ap, ◌∙◌}
use mathlib.Core.Bool.{Bool, not, ◌&&◌, ◌||◌, and-true, and_assoc}
use mathlib.Core.List.{List, [], ◌∷◌}
use Prim.Native.Nat.{ℕ, zero, suc}
use native.Mathlib.Omega.{arith}
use lib.Dec.{eqb}
use lib.ListN.{length, get_or}
use lib.Pointwise.{pointwise}
use Rattle.fcs.specs.Fcs.{hash_of}
use Rattle.bus.specs.Bits.{bit}
use Rattle.filter.specs.Filter.{DRCVBC, DRCVPA, alike, broadcast, station, hashed, group}

-- one byte more in front
alike_more : (k x y : ℕ) (a b : List ℕ) → alike (suc k) (x ∷ a) (y ∷ b) ≡ (eqb x y && alike k a b)
alike_more zero x y a b = sym (and-true (eqb x y))
alike_more (suc k) x y a b =
    ap (λ (t : Bool). t && eqb (get_or a k 0) (get_or b k 0)) (alike_more k x y a b)
    ∙ and_assoc (eqb x y) (alike k a b) (eqb (get_or a k 0) (get_or b k 0))

-- so, of k bytes
alike_is : (k : ℕ) (a b : List ℕ) → length a ≡ k → length b ≡ k → pointwise eqb a b ≡ alike k a b
alike_is zero [] [] e f = refl
alike_is zero [] (y ∷ b) e f = absurd (omega arith)
alike_is zero (x ∷ a) b e f = absurd (omega arith)
alike_is (suc k) [] b e f = absurd (omega arith)
alike_is (suc k) (x ∷ a) [] e f = absurd (omega arith)
alike_is (suc k) (x ∷ a) (y ∷ b) e f = ap (λ (t : Bool). eqb x y && t) (alike_is k a b (omega arith) (omega arith)) ∙ sym (alike_more k x y a b)

-- a station's address, and a group's
module _ (mode : ℕ) (to : List ℕ) (r : Bool) (long : length to ≡ 6) where
  pub station_is : (padr : List ℕ) → r ≡ pointwise eqb to padr → length padr ≡ 6 → (r && not (bit mode DRCVPA)) ≡ station mode padr to
  unfolding station
  station_is padr e l = ap (λ (t : Bool). t && not (bit mode DRCVPA)) (e ∙ alike_is 6 to padr long l)

  pub group_is : (ladrf : List ℕ) (h : Bool) (k : ℕ) → r ≡ pointwise eqb to broadcast → h ≡ hashed ladrf k → k ≡ hash_of to
      → ((r && not (bit mode DRCVBC)) || h) ≡ group mode ladrf to
  unfolding group
  group_is ladrf h k e f g = rw (e, f, g, alike_is 6 to broadcast long refl) refl
