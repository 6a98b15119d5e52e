-- A chain's slots that are given back.
use mathlib.Core.Path.{◌≡◌, refl, sym, ap, ◌∙◌}
use mathlib.Core.List.{List}
use Prim.Native.Nat.{ℕ, zero, suc, ◌+◌, ◌-◌, ◌%◌, ◌≤◌, ◌<◌}
use native.Mathlib.Omega.{arith}
use lib.ListN.{length, get_or, set}
use Rattle.bus.specs.Words.{bytes_of, overwritten}
use Rattle.bus.specs.Bus.{run, Ended, done, store, bytes, ◌>>◌}
use Rattle.bus.proofs.Run.{run_done, run_bytes, after}
use Rattle.ring.specs.declared.Slot.{Slot}
use Rattle.ring.specs.declared.Ring.{Ring}
use Rattle.ring.specs.Slots.{next, place}
use Rattle.ring.specs.Status.{without_own}
use Rattle.transmit.specs.Report.{stays}
use Rattle.chain.specs.Inner.Laid.{later, Given, Placed}
use Rattle.transmit.specs.Turn.{release, finish, give_back}

-- i was reached after k of the slots, and what is left comes to the whole, w
module _ (ring : Ring) (all k : ℕ) (i : Slot) (m : List ℕ) (w : Ended Slot) (whole : run (release ring (all - k) i) m ≡ w) where
  pub release_over : all ≤ k → w ≡ record { answer = i; memory = m }
  unfolding release
  release_over h =
      let l : all - k ≡ 0 = omega arith in
      sym whole ∙ ap (λ (x : ℕ). run (release ring x i) m) l ∙ run_done i m

  pub release_on : (at : ℕ) (j : Slot) → k < all → at ≡ place ring i → j ≡ next ring i
      → run (release ring (all - (k + 1)) j) (set m (at + 3) (get_or m (at + 3) 0 % 128)) ≡ w
  unfolding release without_own run
  release_on at j h ea ej =
      let l : all - k ≡ suc (all - (k + 1)) = omega arith in
      rw (ea, ej) (ap (λ (x : ℕ). run (release ring x i) m) (sym l) ∙ whole)

-- the first of the slots that are left, and the rest
module _ (n : ℕ) (ring : Ring) (all k : ℕ) (i : Slot) (p : Placed n ring (all - k) i) where
  pub placed_status : (m : List ℕ) (at : ℕ) → length m ≡ n → k < all → at ≡ place ring i → at + 3 < length m
  unfolding later
  placed_status m at l h e = omega (arith, p.at 0 (omega arith))

  pub placed_rest : (j : Slot) → j ≡ next ring i → Placed n ring (all - (k + 1)) j
  unfolding later
  placed_rest j e = rw e (record { at = λ x y. p.at (suc x) (omega arith) })

-- where releasing ends
released : (ring : Ring) (k : ℕ) (i : Slot) (m : List ℕ) → (run (release ring k i) m).answer ≡ later ring k i
unfolding release run later
released ring zero i m = refl
released ring (suc k) i m = released ring k (next ring i) _

-- the last slot's bytes
pub finished : (m m₁ : List ℕ) (ring : Ring) (says tmd3 at st : ℕ) (i : Slot) → at ≡ place ring i → st ≡ stays (get_or m (at + 3) 0)
    → m₁ ≡ overwritten m (at + 6) (bytes_of 2 tmd3)
    → run (finish ring says tmd3 i) m ≡ record { answer = tt; memory = set m₁ (at + 3) (st + says) }
unfolding finish run ◌>>◌
finished m m₁ ring says tmd3 at st i e es em =
    rw (← e)
    (after (bytes (at + 6) (bytes_of 2 tmd3)) (λ a. store (at + 3) (stays (get_or m (at + 3) 0) + says) (done tt)) m m₁ tt
    (run_bytes (at + 6) (bytes_of 2 tmd3) m ∙ ap (λ (l : List ℕ). record { answer = tt; memory = l }) (sym em)))
    ∙ ap (λ (x : ℕ). record { answer = tt; memory = set m₁ (at + 3) (x + says) }) (sym es)

-- a chain of k slots whose last slot is known
module _ (m m₁ : List ℕ) (ring : Ring) (k : ℕ) (i last : Slot) (e : run (release ring (k - 1) i) m ≡ record { answer = last; memory = m₁ }) where
  pub last_placed : Given m ring k i → length m₁ ≡ length m → place ring last + 8 ≤ length m₁
  last_placed g l =
      let h : 0 < k = g.some in
      let q : later ring (k - 1) i ≡ last = sym (released ring (k - 1) i m) ∙ ap (λ (x : Ended Slot). x.answer) e in
      rw l (rw q at (g.laid.at (k - 1) (omega arith)).placed)

  pub given_back : (m₂ : List ℕ) (says tmd3 : ℕ) → run (finish ring says tmd3 last) m₁ ≡ record { answer = tt; memory = m₂ }
      → run (give_back ring says tmd3 k i) m ≡ record { answer = tt; memory = m₂ }
  unfolding give_back
  given_back m₂ says tmd3 f = after (release ring (k - 1) i) (finish ring says tmd3) m m₁ last e ∙ f
