-- What filling a slot leaves to do, and what a whole walk comes to.
use mathlib.Core.Path.{◌≡◌, sym, ap, ◌∙◌}
use mathlib.Core.List.{List}
use Prim.Native.Nat.{ℕ, suc, ◌+◌, ◌-◌, ◌≤◌, ◌<◌}
use native.Mathlib.Omega.{arith}
use lib.ListN.{length, take}
use lib.Dec.{leb}
use borrow.Author.Tests.{le-leb, lt-leb, lt-ltb, le-ltb}
use Rattle.std.proofs.lemmas.List.{take_min}
use Rattle.std.specs.Prelude.{if◌then◌else◌, min}
use Rattle.std.specs.declared.ops.ControlFlow.{ControlFlow}
use Rattle.std.specs.declared.ops.ControlFlow.TheVariants.{Continue, Break}
use Rattle.bus.specs.Words.{part, overwritten}
use Rattle.bus.specs.Bus.{Bus, run, bytes, Ended, ◌>>◌}
use Rattle.bus.proofs.Bytes.{part_is}
use Rattle.bus.proofs.Run.{run_done, run_if, run_else, run_bytes, after}
use Rattle.receive.specs.declared.Walked.{Walked}
use Rattle.receive.specs.declared.Current.{Current}
use Rattle.receive.specs.declared.Ending.TheVariants.{Memory}
use Rattle.receive.specs.Walk.{cut, ended, takes, fill, walked}
use Rattle.receive.specs.Inner.Step.{onward, remaining, taken, passed}

-- what a slot's buffer takes, where anything may come after the slot
module _ (c : Current) (m : List ℕ) (otherwise : Bus Walked) where
  -- the buffer isn't wholly inside
  pub taken_outside : length m < c.descriptor.address + c.descriptor.count
      → run (taken (length m) c otherwise) m
      ≡ run (onward (Break (record { ending = Memory; slot = c.slot })) (λ (u : Unit {0}). otherwise)) m
  unfolding taken takes walked onward
  taken_outside h = run_if _ _ _ m (lt-ltb _ _ h)

  module _ (k : ℕ) (m₁ : List ℕ) (w : c.descriptor.address + c.descriptor.count ≤ length m) (f : k ≡ min c.descriptor.count (length c.rest.now))
      (b : m₁ ≡ overwritten m c.descriptor.address (part c.rest.now 0 k)) where
    stored : run (bytes c.descriptor.address (take c.descriptor.count c.rest.now)) m ≡ record { answer = tt; memory = m₁ }
    stored =
        let p : part c.rest.now 0 k ≡ take c.descriptor.count c.rest.now =
        part_is k 0 c.rest.now (omega arith) ∙ rw f (take_min c.descriptor.count c.rest.now) in
        run_bytes c.descriptor.address _ m ∙ ap (λ (l : List ℕ). record { answer = tt; memory = l }) (ap (overwritten m c.descriptor.address) (sym p) ∙ sym b)

    decided : run (taken (length m) c otherwise) m
        ≡ run (if leb (length c.rest.now) c.descriptor.count then ended c.ring (length c.frame.now) c.end c.slot c.stp else otherwise) m₁
    unfolding taken takes ◌>>◌
    decided =
        run_else _ _ _ m (le-ltb _ _ w)
        ∙ after
        (bytes c.descriptor.address (take c.descriptor.count c.rest.now))
        (λ a. if leb (length c.rest.now) c.descriptor.count then ended c.ring (length c.frame.now) c.end c.slot c.stp else otherwise)
        m
        m₁
        tt
        stored

    -- the frame ends there
    pub taken_ends : (x : Walked) (m₂ : List ℕ) → length c.rest.now ≤ c.descriptor.count
        → run (ended c.ring (length c.frame.now) c.end c.slot c.stp) m₁ ≡ record { answer = x; memory = m₂ }
        → run (taken (length m) c otherwise) m ≡ run (onward (Break x) (λ (u : Unit {0}). otherwise)) m₂
    unfolding onward
    taken_ends x m₂ h e = decided ∙ run_if _ _ _ m₁ (le-leb _ _ h) ∙ e ∙ sym (run_done x m₂)

    -- it doesn't
    pub taken_goes : c.descriptor.count < length c.rest.now
        → run (taken (length m) c otherwise) m ≡ run (onward (Continue (tt {0})) (λ (u : Unit {0}). otherwise)) m₁
    unfolding onward
    taken_goes h = decided ∙ run_else _ _ _ m₁ (lt-leb _ _ h)

-- the rest of a walk, by what came of the slot's buffer
module _ (c : Current) (m m₁ : List ℕ) (s : ControlFlow Walked (Unit {0}))
    (t : (otherwise : Bus Walked) → run (taken (length m) c otherwise) m ≡ run (onward s (λ (u : Unit {0}). otherwise)) m₁) where
  -- at a slot after which the frame may use `left` more
  module _ (left : ℕ) where
    pub slot_over : (w : Walked) → s ≡ Break w
        → run (remaining (length m) (suc left) c) m ≡ run (onward (Break w) (remaining (length m) left)) m₁
    unfolding remaining taken passed fill onward
    slot_over w o = rw o at (t (passed (length m) left c))

    pub slot_passed : (q : ControlFlow Walked Current) (m₂ : List ℕ) → s ≡ Continue (tt {0}) → length m₁ ≡ length m
        → ((left : ℕ) → run (passed (length m₁) left c) m₁ ≡ run (onward q (remaining (length m₁) left)) m₂)
        → run (remaining (length m) (suc left) c) m ≡ run (onward q (remaining (length m) left)) m₂
    unfolding remaining taken passed fill onward
    slot_passed q m₂ o l p =
        rw o at (t (passed (length m) left c))
        ∙ ap (λ (n : ℕ). run (passed n left c) m₁) (sym l)
        ∙ p left
        ∙ ap (λ (n : ℕ). run (onward q (remaining n left)) m₂) l

  -- at the last slot that the frame may use: it has used all n
  module _ (n i : ℕ) (x : Ended Walked) (z : n ≤ i) (e : run (remaining (length m) (n - i) c) m ≡ x) where
    last : n - i ≡ 0
    last = omega arith

    pub last_over : (w : Walked) → s ≡ Break w → x ≡ record { answer = w; memory = m₁ }
    unfolding remaining taken fill onward
    last_over w o = sym e ∙ rw last (rw o at (t (cut c.ring c.slot c.stp))) ∙ run_done w m₁

    pub last_cut : (w : Walked) (m₂ : List ℕ) → s ≡ Continue (tt {0})
        → run (cut c.ring c.slot c.stp) m₁ ≡ record { answer = w; memory = m₂ } → x ≡ record { answer = w; memory = m₂ }
    unfolding remaining taken fill onward
    last_cut w m₂ o p = sym e ∙ rw last (rw o at (t (cut c.ring c.slot c.stp))) ∙ p

-- one turn of a walk, at a slot that isn't the last of n: it is over, or goes on with the next slot
module _ (c : Current) (m m' : List ℕ) (s : ControlFlow Walked Current) (n i : ℕ) (x : Ended Walked) (h : i < n)
    (e : run (remaining (length m) (n - i) c) m ≡ x)
    (t : (left : ℕ) → run (remaining (length m) (suc left) c) m ≡ run (onward s (remaining (length m) left)) m') where
  turn : run (onward s (remaining (length m) (n - (i + 1)))) m' ≡ x
  turn =
      let g : suc (n - (i + 1)) ≡ n - i = omega arith in
      sym (t (n - (i + 1))) ∙ ap (λ (k : ℕ). run (remaining (length m) k c) m) g ∙ e

  pub turn_over : (w : Walked) → s ≡ Break w → x ≡ record { answer = w; memory = m' }
  unfolding onward
  turn_over w o = sym (rw o at turn) ∙ run_done w m'

  pub turn_on : (d : Current) → s ≡ Continue d → length m' ≡ length m → run (remaining (length m') (n - (i + 1)) d) m' ≡ x
  unfolding onward
  turn_on d o l = rw l (rw o at turn)
