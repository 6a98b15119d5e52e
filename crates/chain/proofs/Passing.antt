-- The ways of passing a slot where a frame should start.
use mathlib.Core.Path.{◌≡◌, refl, sym, ap, ◌∙◌}
use mathlib.Core.List.{List}
use mathlib.Core.Bool.{Bool, true, false}
use Prim.Native.Nat.{ℕ, zero, suc, ◌+◌, ◌-◌, ◌/◌, ◌%◌, ◌≤◌, ◌<◌}
use native.Mathlib.Omega.{arith}
use lib.ListN.{length, set}
use lib.Dec.{eqb}
use borrow.Author.Tests.{eq-eqb, ne_eqb}
use Rattle.std.specs.Prelude.{if◌then◌else◌}
use Rattle.bus.specs.Bus.{Bus, run, Ended, done, store}
use Rattle.bus.proofs.Run.{run_done, run_if, run_else, after}
use Rattle.ring.specs.declared.Slot.{Slot}
use Rattle.ring.specs.declared.Ring.{Ring}
use Rattle.ring.specs.declared.Descriptor.{Descriptor}
use Rattle.ring.specs.declared.Found.{Found}
use Rattle.ring.specs.declared.Found.TheVariants.{Outside, NotOwned, Owned}
use Rattle.ring.specs.Slots.{next, place}
use Rattle.ring.specs.Descriptor.{look, by◌outside:◌not_owned:◌owned:◌}
use Rattle.ring.proofs.Finding.{found, run_look, look_finds, found_inside}
use Rattle.chain.specs.declared.Start.{Start}
use Rattle.chain.specs.declared.Start.TheVariants.{NoMemory, Nothing, Frame}
use Rattle.ring.specs.Status.{without_own}
use Rattle.chain.specs.Start.{pass}

-- what is found at a slot says how it goes on with k more
abbrev on : ℕ → Ring → ℕ → Slot → Found → Bus Start
on n ring k i f =
    by f
    outside: (done (NoMemory i))
    not_owned: (done (Nothing i))
    owned: (λ d.
    if eqb (d.status / 2 % 2) 1
    then done (Frame i d)
    else store (place ring i + 3) (without_own d.status) (pass n ring k (next ring i)))

-- n is the memory's length, i was reached after k of the slots, and what is left comes to the whole, w
module _ (n : ℕ) (ring : Ring) (all k : ℕ) (i : Slot) (m : List ℕ) (w : Ended Start) (len : length m ≡ n)
    (whole : run (pass n ring (all - k) i) m ≡ w) where
  -- no slot is left
  pub pass_over : all ≤ k → w ≡ record { answer = Nothing i; memory = m }
  unfolding pass
  pass_over h =
      let l : all - k ≡ 0 = omega arith in
      sym whole ∙ ap (λ (x : ℕ). run (pass n ring x i) m) l ∙ run_done (Nothing i) m

  module _ (h : k < all) (f : Found) (e : run (look (length m) ring i) m ≡ record { answer = f; memory = m }) where
    seen : (g : Found) → f ≡ g → w ≡ run (on n ring (all - (k + 1)) i g) m
    unfolding pass
    seen g ef =
        let l : all - k ≡ suc (all - (k + 1)) = omega arith in
        sym whole ∙ ap (λ (x : ℕ). run (pass n ring x i) m) l ∙ after (look n ring i) (on n ring (all - (k + 1)) i) m m g (rw (len, ef) at e)

    pub pass_outside : f ≡ Outside → w ≡ record { answer = NoMemory i; memory = m }
    unfolding by◌outside:◌not_owned:◌owned:◌
    pass_outside ef = seen Outside ef ∙ run_done (NoMemory i) m

    pub pass_not_owned : f ≡ NotOwned → w ≡ record { answer = Nothing i; memory = m }
    unfolding by◌outside:◌not_owned:◌owned:◌
    pass_not_owned ef = seen NotOwned ef ∙ run_done (Nothing i) m

    module _ (d : Descriptor) (ef : f ≡ Owned d) where
      pub pass_frame : d.status / 2 % 2 ≡ 1 → w ≡ record { answer = Frame i d; memory = m }
      unfolding by◌outside:◌not_owned:◌owned:◌
      pass_frame b = seen (Owned d) ef ∙ run_if _ _ _ m (eq-eqb _ _ b) ∙ run_done (Frame i d) m

      pub pass_on : (at : ℕ) (j : Slot) → (d.status / 2 % 2 ≡ 1 → ⊥) → at ≡ place ring i → j ≡ next ring i
          → run (pass n ring (all - (k + 1)) j) (set m (at + 3) (d.status % 128)) ≡ w
      unfolding run without_own by◌outside:◌not_owned:◌owned:◌
      pass_on at j b ea ej = sym (rw (ea, ej) (seen (Owned d) ef ∙ run_else _ _ _ m (ne_eqb _ _ b)))

-- an owned slot's status is inside
pub look_inside : (m : List ℕ) (ring : Ring) (at : ℕ) (i : Slot) (f : Found) (d : Descriptor) → run (look (length m) ring i) m ≡ record { answer = f; memory = m }
    → f ≡ Owned d → at ≡ place ring i → at + 3 < length m
look_inside m ring at i f d e ef ea = omega (arith, found_inside (length m) ring i m d (look_finds (length m) ring i m f e ∙ ef))

-- where a frame starts, its descriptor stands in the memory that is left
module _ (n : ℕ) (ring : Ring) (k : ℕ) (i j : Slot) (d : Descriptor) (m m' : List ℕ) where
  abbrev Here : Bus Start → Type 0
  Here p = run p m ≡ record { answer = Frame j d; memory = m' }

  only : (s : Start) → Here (done s) → s ≡ Frame j d
  unfolding run
  only s e = ap (λ (x : Ended Start). x.answer) e

  module _ (rest : (m₁ : List ℕ) → run (pass n ring k (next ring i)) m₁ ≡ record { answer = Frame j d; memory = m' } → found n ring j m' ≡ Owned d) where
    owned : (b : Bool) (d₁ : Descriptor) (a v : ℕ) → found n ring i m ≡ Owned d₁
        → Here (if b then done (Frame i d₁) else store a v (pass n ring k (next ring i))) → found n ring j m' ≡ Owned d
    unfolding run
    owned true d₁ a v ef e = let s : Frame i d₁ ≡ Frame j d = only (Frame i d₁) e in let l : m ≡ m' = ap (λ (x : Ended Start). x.memory) e in cc
    owned false d₁ a v ef e = rest (set m a v) e

    passed : (f : Found) → found n ring i m ≡ f → Here (on n ring k i f) → found n ring j m' ≡ Owned d
    unfolding by◌outside:◌not_owned:◌owned:◌
    passed Outside ef e = let s : NoMemory i ≡ Frame j d = only (NoMemory i) e in cc
    passed NotOwned ef e = let s : Nothing i ≡ Frame j d = only (Nothing i) e in cc
    passed (Owned d₁) ef e = owned (eqb (d₁.status / 2 % 2) 1) d₁ (place ring i + 3) (without_own d₁.status) ef e

pub pass_owned : (n : ℕ) (ring : Ring) (k : ℕ) (i j : Slot) (d : Descriptor) (m m' : List ℕ)
    → run (pass n ring k i) m ≡ record { answer = Frame j d; memory = m' } → found n ring j m' ≡ Owned d
unfolding pass
pass_owned n ring zero i j d m m' e = let s : Nothing i ≡ Frame j d = only n ring 0 i j d m m' (Nothing i) e in cc
pass_owned n ring (suc k) i j d m m' e =
    passed n ring k i j d m m' (λ m₁. pass_owned n ring k (next ring i) j d m₁ m') (found n ring i m) refl
    (sym (after (look n ring i) (on n ring k i) m m (found n ring i m) (run_look n ring i m)) ∙ e)

-- .. and there was a slot to look at
pub pass_some : (n : ℕ) (ring : Ring) (k : ℕ) (i j : Slot) (d : Descriptor) (m m' : List ℕ)
    → run (pass n ring k i) m ≡ record { answer = Frame j d; memory = m' } → 0 < k
unfolding pass
pass_some n ring zero i j d m m' e =
    let s : Nothing i ≡ Frame j d = only n ring 0 i j d m m' (Nothing i) e in
    let z : ◌≡◌ {A = ℕ} 0 1 = cc in
    omega arith
pass_some n ring (suc k) i j d m m' e = omega arith
