-- What a sound state has as zeros, as the code compares them.
use mathlib.Core.Path.{◌≡◌, refl, sym, ap, ◌∙◌}
use mathlib.Core.Bool.{Bool, not, ◌&&◌}
use mathlib.Core.List.{List, [], ◌∷◌}
use Prim.Native.Nat.{ℕ, zero, suc}
use lib.Dec.{eqb}
use lib.ListN.{length, get_or, replicate}
use lib.Pointwise.{pointwise}
use Rattle.std.proofs.Math.Bool.{and_assoc, and-true}
use Rattle.ring.specs.Loading.{unloaded}
use Rattle.card.specs.declared.Card.{Card}
use Rattle.card.specs.Sound.{zeros, before}

-- the first of some zeros comes apart, as the last does
zeros_front : (k x : ℕ) (l : List ℕ) → zeros (suc k) (x ∷ l) ≡ (eqb x 0 && zeros k l)
unfolding zeros
zeros_front zero x l = sym (and-true (eqb x 0))
zeros_front (suc k) x l = ap (λ (b : Bool). b && eqb (get_or l k 0) 0) (zeros_front k x l) ∙ and_assoc (eqb x 0) (zeros k l) (eqb (get_or l k 0) 0)

-- as many numbers as there are
zeros_are : (k : ℕ) (l : List ℕ) → length l ≡ k → pointwise eqb l (replicate k 0) ≡ zeros k l
unfolding zeros
zeros_are zero [] e = refl
zeros_are zero (x ∷ l) e = cc
zeros_are (suc k) [] e = cc
zeros_are (suc k) (x ∷ l) e = ap (λ (b : Bool). eqb x 0 && b) (zeros_are k l (cc)) ∙ sym (zeros_front k x l)

-- the station's address and the filter are compared whole
pub before_is : (c : Card) (a f r t : Bool) → length c.address ≡ 6 → length c.filter ≡ 4
    → a ≡ pointwise eqb c.address (0 ∷ (0 ∷ (0 ∷ (0 ∷ (0 ∷ (0 ∷ []))))))
    → f ≡ pointwise eqb c.filter (0 ∷ (0 ∷ (0 ∷ (0 ∷ [])))) → r ≡ unloaded c.receive → t ≡ unloaded c.transmit
    → (not c.csr0.strt && eqb c.mode 0 && a && f && r && t) ≡ before c
unfolding before
before_is c a f r t la lf ea ef er et = rw (ea ∙ zeros_are 6 c.address la, ef ∙ zeros_are 4 c.filter lf, er, et)
