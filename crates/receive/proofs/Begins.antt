-- The two ways in which a walk begins.
use mathlib.Core.Path.{◌≡◌, refl, sym, ap, ◌∙◌}
use mathlib.Core.List.{List}
use Prim.Native.Nat.{ℕ, ◌-◌}
use lib.ListN.{length}
use Rattle.bus.specs.Bus.{Bus, done, run, Ended}
use Rattle.bus.proofs.Run.{run_done, after}
use Rattle.ring.specs.declared.Slot.{Slot}
use Rattle.ring.specs.declared.Ring.{Ring}
use Rattle.ring.specs.declared.Descriptor.{Descriptor}
use Rattle.ring.specs.declared.Found.{Found}
use Rattle.ring.specs.declared.Found.TheVariants.{Outside, NotOwned, Owned}
use Rattle.ring.proofs.Finding.{by_other}
use Rattle.ring.specs.Descriptor.{look, by◌outside:◌not_owned:◌owned:◌}
use Rattle.receive.specs.declared.Walked.{Walked}
use Rattle.receive.specs.declared.Ending.{Ending}
use Rattle.receive.specs.declared.Ending.TheVariants.{Memory, Missed}
use Rattle.ring.specs.Slots.{slots}
use Rattle.ring.specs.Status.{STP}
use Rattle.receive.specs.Walk.{walk, fill, walked}
use Rattle.receive.specs.Inner.Ends.{ending_of}

-- the first slot is outside, or not owned
module _ (found : Found) where
  pub ends_outside : found ≡ Outside → ending_of found ≡ Memory
  unfolding ending_of by◌outside:◌not_owned:◌owned:◌
  ends_outside h = rw h

  pub ends_other : (found ≡ Outside → ⊥) → ending_of found ≡ Missed
  unfolding ending_of
  ends_other h = by_other Memory Missed found h

-- .. and the walk ends
refused : (i : Slot) (m : List ℕ) (k : Descriptor → Bus Walked) (found : Found) → ((d : Descriptor) → found ≡ Owned d → ⊥)
    → run (by found outside: (done (walked Memory i)) not_owned: (done (walked Missed i)) owned: k) m
    ≡ record { answer = record { ending = ending_of found; slot = i }; memory = m }
unfolding by◌outside:◌not_owned:◌owned:◌ walked ending_of
refused i m k Outside h = run_done _ m
refused i m k NotOwned h = run_done _ m
refused i m k (Owned d) h = absurd (h d refl)

module _ (r : Ring) (f : List ℕ) (end : ℕ) (m : List ℕ) (found : Found)
    (l : run (look (length m) r r.slot) m ≡ record { answer = found; memory = m }) where
  decided : run (walk (length m) r f end) m
      ≡ run
      (by found
      outside: (done (walked Memory r.slot))
      not_owned: (done (walked Missed r.slot))
      owned: (λ d. fill (length m) r f end (slots r - 1) r.slot d f STP))
      m
  unfolding walk
  decided =
      after
      (look (length m) r r.slot)
      (λ x.
      by x
      outside: (done (walked Memory r.slot))
      not_owned: (done (walked Missed r.slot))
      owned: (λ d. fill (length m) r f end (slots r - 1) r.slot d f STP))
      m
      m
      found
      l

  pub walk_refused : (e : Ending) → ((d : Descriptor) → found ≡ Owned d → ⊥)
      → e ≡ ending_of found
      → run (walk (length m) r f end) m ≡ record { answer = record { ending = e; slot = r.slot }; memory = m }
  walk_refused e h q = decided ∙ refused r.slot m _ found h ∙ ap (λ (y : Ending). record { answer = record { ending = y; slot = r.slot }; memory = m }) (sym q)

  -- it is owned
  pub walk_owned : (d : Descriptor) (bits : ℕ) (x : Ended Walked) → found ≡ Owned d → bits ≡ end
      → run (fill (length m) r f bits (slots r - 1) r.slot d f STP) m ≡ x → run (walk (length m) r f end) m ≡ x
  unfolding by◌outside:◌not_owned:◌owned:◌
  walk_owned d bits x o b e = decided ∙ rw (o, ← b) e
