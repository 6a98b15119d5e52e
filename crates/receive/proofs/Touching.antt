-- What a walk touches: it loads the ring's descriptors, stores to their bytes 3, 6 and 7 and to buffers that the card owns, and ends
-- at a slot of the ring.
use Prim.Native.Nat.{ℕ, zero, suc, ◌+◌, ◌-◌, ◌≤◌, ◌<◌}
use native.Mathlib.Omega.{arith}
use mathlib.Core.Path.{◌≡◌, subst}
use mathlib.Core.Logic.{◌⊎◌, inl, inr}
use mathlib.Core.List.{List}
use lib.ListN.{length, take, length-take}
use lib.Dec.{lit<}
use Rattle.bus.specs.Bus.{Bus, done, bytes, ◌>>◌}
use Rattle.bus.specs.Words.{bytes_of}
use Rattle.bus.specs.Within.{Keeps, Within}
use Rattle.bus.proofs.Within.{so_if, none, keeps_more, keeps_bytes, keeps_then, within_done, within_store, within_next, within_bytes}
use Rattle.ring.specs.declared.Slot.{Slot}
use Rattle.ring.specs.declared.Ring.{Ring}
use Rattle.ring.specs.declared.Descriptor.{Descriptor}
use Rattle.ring.specs.declared.Found.TheVariants.{Owned}
use Rattle.ring.specs.Slots.{slots, next, place}
use Rattle.ring.specs.Status.{STP}
use Rattle.ring.specs.Places.{descriptor, InRing, InBuffer}
use Rattle.ring.proofs.Finding.{found}
use Rattle.ring.proofs.Loaded.{next_within}
use Rattle.ring.proofs.Looking.{so_by, found_owned, found_described, in_ring, keeps_looked}
use Rattle.receive.specs.declared.Walked.{Walked}
use Rattle.receive.specs.declared.Ending.{Ending}
use Rattle.receive.specs.Walk.{status, mcnt, leave, cut, ended, merr, beyond, takes, fill, walk, walked}

-- which addresses a walk may load, and where it may store, on the memory of a moment
abbrev pub Looks : Ring → List ℕ → ℕ → Type 0
Looks r m a = InRing r a

abbrev pub Fills : Ring → List ℕ → ℕ → ℕ → Type 0
Fills r m a b = InRing r a ⊎ InBuffer r m a

-- a walk that ends at a slot of the ring
abbrev pub EndsIn : Ring → List ℕ → Walked → Type 0
EndsIn r m w = w.slot.0 < slots r

module _ (n : ℕ) (r : Ring) (some : 0 < slots r) where
  abbrev Ok : {A : Type 0} → (List ℕ → A → Type 0) → Bus A → List ℕ → Type 0
  Ok E p m = Within (Looks r) (Fills r) E p m

  status_within : (i : Slot) (s : ℕ) (m : List ℕ) → i.0 < slots r → Ok (λ m u. Unit {0}) (status r i s) m
  unfolding status
  status_within i s m h =
      within_store _ _ _ (place r i + 3) s (done tt) m (inl (in_ring r i h 3 (lit< tt))) (within_done _ _ _ tt _ tt)

  leave_within : (i : Slot) (s : ℕ) (e : Ending) (m : List ℕ) → i.0 < slots r → Ok (EndsIn r) (leave r i s e) m
  unfolding leave walked
  leave_within i s e m h =
      within_next _ _ _ (status r i s) _ m (status_within i s m h) (λ m'. within_done _ _ _ _ m' (next_within r i some))

  ended_within : (k end : ℕ) (i : Slot) (stp : ℕ) (m : List ℕ) → i.0 < slots r → Ok (EndsIn r) (ended r k end i stp) m
  unfolding ended mcnt bytes_of
  ended_within k end i stp m h =
      within_next _ _ _ (bytes (place r i + 6) (bytes_of 2 k)) _ m
      (within_bytes _ _ _ (place r i + 6) (bytes_of 2 k) m (λ j l. inl (at j l)) tt) (λ m'. leave_within i _ _ m' h)
    where
      at : (j : ℕ) → j < length (bytes_of 2 k) → InRing r (place r i + 6 + j)
      at j l = record { slot = i; within = h; from = omega arith; to = omega arith }

  -- whatever was allowed before
  module _ (b : ℕ → Type 0) (s : ℕ → ℕ → Type 0) where
    also : {A : Type 0} (E : List ℕ → A → Type 0) (p : Bus A) (m : List ℕ) → Ok E p m → Keeps (Looks r) (Fills r) E b s p m
    also E p m h = keeps_more _ _ E _ b _ s p m (λ x. none) (λ x y. none) h

  module _ (f : List ℕ) (end : ℕ) where
    -- a slot whose buffer may be stored to
    takes_within : (b : ℕ → Type 0) (s : ℕ → ℕ → Type 0) (i : Slot) (d : Descriptor) (rest : List ℕ) (stp : ℕ) (otherwise : Bus Walked) (m : List ℕ)
        → i.0 < slots r → ((a v : ℕ) → d.address ≤ a → a < d.address + d.count → s a v ⊎ Fills r m a v)
        → ((b' : ℕ → Type 0) (s' : ℕ → ℕ → Type 0) (m' : List ℕ) → Keeps (Looks r) (Fills r) (EndsIn r) b' s' otherwise m')
        → Keeps (Looks r) (Fills r) (EndsIn r) b s (takes n r f end i d rest stp otherwise) m
    unfolding takes walked ◌>>◌
    takes_within b s i d rest stp otherwise m h may next =
        so_if (λ (p : Bus Walked). Keeps (Looks r) (Fills r) (EndsIn r) b s p m) _ _ _ (also b s _ _ m (within_done _ _ _ _ m h))
        (keeps_then _ _ (λ m u. Unit {0}) _ b s (bytes d.address (take d.count rest)) _ m
        (keeps_bytes _ _ _ b s d.address (take d.count rest) m (λ j l. may _ _ (omega arith) (omega (arith, length-take d.count rest))) tt)
        (λ u m' b' s' e t p q.
        so_if (λ (p : Bus Walked). Keeps (Looks r) (Fills r) (EndsIn r) b' s' p m') _ _ _ (also b' s' _ _ m' (ended_within _ _ i stp m' h)) (next b' s' m')))

    -- the buffer of a slot that is found owned
    owned_may : (i : Slot) (d : Descriptor) (m : List ℕ) → i.0 < slots r → found n r i m ≡ Owned d → (a : ℕ) → d.address ≤ a
        → a < d.address + d.count → InBuffer r m a
    owned_may i d m h e a l u =
        let is : d ≡ descriptor r m i = found_described n r i m d e in
        record {
          slot = i;
          within = h;
          owned = found_owned n r i m d e;
          from = subst (λ (x : Descriptor). x.address ≤ a) is l;
          to = subst (λ (x : Descriptor). a < x.address + x.count) is u;
        }

    fill_within : (left : ℕ) (b : ℕ → Type 0) (s : ℕ → ℕ → Type 0) (i : Slot) (d : Descriptor) (rest : List ℕ) (stp : ℕ) (m : List ℕ)
        → i.0 < slots r → ((a v : ℕ) → d.address ≤ a → a < d.address + d.count → s a v ⊎ Fills r m a v)
        → Keeps (Looks r) (Fills r) (EndsIn r) b s (fill n r f end left i d rest stp) m
    unfolding fill beyond cut merr ◌>>◌
    fill_within zero b s i d rest stp m h may =
        takes_within b s i d rest stp _ m h may (λ b' s' m'. also b' s' _ _ m' (leave_within i _ _ m' h))
    fill_within (suc left) b s i d rest stp m h may =
        takes_within b s i d rest stp _ m h may (λ b' s' m'.
        keeps_looked _ _ r (λ m a q. q) n _ b' s' (next r i) _ m' (next_within r i some)
        (so_by (λ (p : Bus Walked). Keeps (Looks r) (Fills r) (EndsIn r) b' s' p m') (found n r (next r i) m') _ _ _
        (also b' s' _ _ m' (leave_within i _ _ m' h)) (also b' s' _ _ m' (leave_within i _ _ m' h))
        (λ e is. keeps_then _ _ (λ m u. Unit {0}) _ b' s' (status r i stp) _ m' (also b' s' _ _ m' (status_within i stp m' h))
        (λ u m'' b'' s'' x t p q. fill_within left b'' s'' (next r i) e _ 0 m'' (next_within r i some)
        (λ a v lo hi. q a v (inr (inr (owned_may (next r i) e m' (next_within r i some) is a lo hi))))))))

    -- the whole walk
    pub walk_within : (m : List ℕ) → r.slot.0 < slots r → Within (Looks r) (Fills r) (EndsIn r) (walk n r f end) m
    unfolding walk walked
    walk_within m h =
        keeps_looked _ _ r (λ m a q. q) n _ _ _ r.slot _ m h
        (so_by (λ (p : Bus Walked). Ok (EndsIn r) p m) (found n r r.slot m) _ _ _ (within_done _ _ _ _ m h) (within_done _ _ _ _ m h)
        (λ d is. fill_within (slots r - 1) _ _ r.slot d f STP m h (λ a v lo hi. inr (inr (owned_may r.slot d m h is a lo hi)))))
