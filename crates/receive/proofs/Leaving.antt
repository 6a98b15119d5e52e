-- What becomes of one slot of a walk, by the ways through the code.
use mathlib.Core.Path.{◌≡◌, refl, sym, ap, subst, ◌∙◌}
use mathlib.Core.List.{List}
use Prim.Native.Nat.{ℕ, ◌+◌, ◌*◌, ◌/◌, ◌%◌, ◌≤◌}
use native.Mathlib.Nat.{mul-add-mod_self_left}
use native.Mathlib.Omega.{arith}
use lib.ListN.{length, set, drop}
use Rattle.std.specs.declared.ops.ControlFlow.TheVariants.{Continue}
use Rattle.std.specs.ControlFlow.{ForContinue}
use Rattle.bus.specs.Words.{bytes_of, overwritten}
use Rattle.bus.specs.Bus.{Bus, bytes, run, ◌>>◌, ◌>>=◌}
use Rattle.bus.proofs.Run.{run_bytes, after}
use Rattle.ring.proofs.Finding.{by_outside, by_other, by_unowned}
use Rattle.ring.specs.declared.Slot.{Slot}
use Rattle.ring.specs.declared.Ring.{Ring}
use Rattle.ring.specs.declared.Descriptor.{Descriptor}
use Rattle.ring.specs.declared.Found.{Found}
use Rattle.ring.specs.declared.Found.TheVariants.{Outside, Owned}
use Rattle.ring.specs.Slots.{next, place}
use Rattle.ring.specs.Descriptor.{look, by◌outside:◌not_owned:◌owned:◌}
use Rattle.receive.specs.declared.Walked.{Walked}
use Rattle.receive.specs.declared.Ending.{Ending}
use Rattle.receive.specs.declared.Ending.TheVariants.{Memory, Received}
use Rattle.receive.specs.declared.Current.{Current}
use Rattle.receive.specs.Walk.{status, mcnt, leave, cut, merr, ended, beyond, fill, walked}
use Rattle.receive.specs.Inner.Ends.{stops_at}
use Rattle.receive.specs.Inner.Step.{Fits, passed}

-- a status is byte 3 of its descriptor
pub status_is : (r : Ring) (i : Slot) (s : ℕ) (m : List ℕ)
    → run (status r i s) m ≡ record { answer = tt; memory = set m (place r i + 3) s }
unfolding status run
status_is r i s m = refl

-- a status is written, and the walk is over
pub leave_is : (r : Ring) (i : Slot) (s : ℕ) (e : Ending) (m : List ℕ)
    → run (leave r i s e) m ≡ record { answer = record { ending = e; slot = next r i }; memory = (run (status r i s) m).memory }
unfolding leave status run ◌>>◌ ◌>>=◌ walked
leave_is r i s e m = refl

-- a word's two bytes are those of its low sixteen bits
low_word : (k : ℕ) → bytes_of 2 (k % 65536) ≡ bytes_of 2 k
unfolding bytes_of
low_word k =
    let low : k % 65536 % 256 ≡ k % 256 = omega arith in
    let parts : k / 256 ≡ 256 * (k / 65536) + k % 65536 / 256 = omega arith in
    let high : k % 65536 / 256 % 256 ≡ k / 256 % 256 =
    sym (ap (λ (x : ℕ). x % 256) parts ∙ mul-add-mod_self_left 256 (k / 65536) (k % 65536 / 256)) in
    rw (low, high)

-- the frame ends there
pub ended_is : (r : Ring) (k end : ℕ) (i : Slot) (stp : ℕ) (m : List ℕ)
    → run (ended r k end i stp) m ≡ run (leave r i (stp + end) Received) (overwritten m (place r i + 6) (bytes_of 2 (k % 65536)))
unfolding ended mcnt ◌>>◌
ended_is r k end i stp m =
    after (bytes (place r i + 6) (bytes_of 2 k)) (λ a. leave r i (stp + end) Received) m _ tt (run_bytes (place r i + 6) (bytes_of 2 k) m)
    ∙ rw (low_word k)

module _ (r : Ring) (i : Slot) (stp : ℕ) (m : List ℕ) (found : Found) where
  -- the next one is outside, or not owned
  pub stop_outside : found ≡ Outside → run (stops_at r i stp found) m ≡ run (leave r i stp Memory) m
  unfolding merr stops_at
  stop_outside h = ap (λ (p : Bus Walked). run p m) (by_outside (merr r i stp) (cut r i stp) found h)

  pub stop_other : (found ≡ Outside → ⊥) → run (stops_at r i stp found) m ≡ run (cut r i stp) m
  unfolding stops_at
  stop_other h = ap (λ (p : Bus Walked). run p m) (by_other (merr r i stp) (cut r i stp) found h)

-- what was found at the next slot decides
module _ (c : Current) (j : Slot) (m : List ℕ) (left : ℕ) (found : Found) (n : j ≡ next c.ring c.slot)
    (l : run (look (length m) c.ring j) m ≡ record { answer = found; memory = m }) where
  on : Slot → Descriptor → Bus Walked
  on i d = fill (length m) c.ring c.frame.now c.end left i d (drop c.descriptor.count c.rest.now) 0

  by_found : Found → Bus Walked
  by_found x =
      by x
      outside: (merr c.ring c.slot c.stp)
      not_owned: (cut c.ring c.slot c.stp)
      owned: (λ e. status c.ring c.slot c.stp >> on j e)

  decided : run (passed (length m) left c) m ≡ run (by_found found) m
  unfolding passed beyond on by_found
  decided = rw (← n) (after (look (length m) c.ring j) by_found m m found l)

  pub next_stops : ((d : Descriptor) → found ≡ Owned d → ⊥)
      → run (passed (length m) left c) m ≡ run (stops_at c.ring c.slot c.stp found) m
  unfolding stops_at by_found
  next_stops h =
      decided
      ∙ ap (λ (p : Bus Walked). run p m)
      (by_unowned
      (merr c.ring c.slot c.stp)
      (cut c.ring c.slot c.stp)
      (λ d. status c.ring c.slot c.stp >> on j d)
      found
      h)

  pub next_goes : (d : Descriptor) (rest m' : List ℕ) → found ≡ Owned d
      → run (status c.ring c.slot c.stp) m ≡ record { answer = tt; memory = m' }
      → rest ≡ drop c.descriptor.count c.rest.now
      → run (passed (length m) left c) m ≡ run (fill (length m) c.ring c.frame.now c.end left j d rest 0) m'
  unfolding by◌outside:◌not_owned:◌owned:◌ ◌>>◌ on by_found
  next_goes d rest m' f w e = decided ∙ rw (f, e) (after (status c.ring c.slot c.stp) (λ a. on j d) m m' tt w)

-- .. where the next slot is found owned, and its descriptor is in the memory
pub goes_to : (n : ℕ) (c : Current) → place c.ring c.slot + 8 ≤ n → ForContinue {B = Walked} (Continue c) (Fits n)
goes_to n c h d e =
    let q : c ≡ d = cc in
    subst (Fits n) q (record { fits = h })
