-- What passing slots and reading a chain touch: they load the ring's descriptors, take OWN from passed ones, and end at a slot of the
-- ring; each slot of a chain that was read is owned.
use Prim.Native.Nat.{ℕ, zero, suc, ◌+◌, ◌-◌, ◌%◌, ◌≤◌, ◌<◌}
use native.Mathlib.Nat.{eq-or-lt_of_le}
use native.Mathlib.Numerals.{add-one}
use native.Mathlib.Omega.{arith}
use mathlib.Core.Path.{◌≡◌, refl, sym, ap, subst, ◌∙◌}
use mathlib.Core.Logic.{◌⊎◌, inl, ⊎_elim}
use mathlib.Core.List.{List}
use lib.ListN.{get_or}
use Rattle.std.specs.declared.ops.ControlFlow.TheVariants.{Continue, Break}
use Rattle.bus.specs.Bus.{Bus, run, Ended}
use Rattle.bus.specs.Within.{Within}
use Rattle.bus.proofs.Within.{so_if, within_done, within_store, within_then}
use Rattle.ring.specs.declared.Slot.{Slot}
use Rattle.ring.specs.declared.Ring.{Ring}
use Rattle.ring.specs.declared.Descriptor.{Descriptor}
use Rattle.ring.specs.declared.Found.TheVariants.{Owned}
use Rattle.ring.specs.Slots.{slots, next, place}
use Rattle.ring.specs.Status.{without_own}
use Rattle.ring.specs.Places.{InRing, InBuffer}
use Rattle.ring.proofs.Finding.{found}
use Rattle.ring.proofs.Loaded.{next_within}
use Rattle.ring.proofs.Looking.{so_by, found_owned, keeps_looked}
use Rattle.chain.specs.declared.Start.{Start}
use Rattle.chain.specs.declared.Start.TheVariants.{NoMemory, Nothing, Frame}
use Rattle.chain.specs.declared.Reach.{Reach}
use Rattle.chain.specs.declared.Closed.{Closed}
use Rattle.chain.specs.Start.{pass}
use Rattle.chain.specs.Chain.{Chain, further, grow, closed, link, links, read_chain}
use Rattle.chain.specs.Inner.Laid.{later}
use Rattle.chain.proofs.Chains.{grown, kept, run_chain}
use Rattle.chain.proofs.Reaching.{later_last}

-- which addresses a turn may load on the memory of a moment: descriptors, and buffers that the card owns
abbrev pub Reads : Ring → List ℕ → ℕ → Type 0
Reads ring m a = InRing ring a ⊎ InBuffer ring m a

-- .. and what it may store: a status without OWN, and TMD3
pub data Gives (ring : Ring) (m : List ℕ) (a b : ℕ) : Type 0 where
  status : (i : Slot) → i.0 < slots ring → a ≡ place ring i + 3 → b < 128 → Gives ring m a b
  tmd3 : (i : Slot) (k : ℕ) → i.0 < slots ring → 6 ≤ k → k < 8 → a ≡ place ring i + k → Gives ring m a b

module _ (ring : Ring) where
  -- a start that is found at a slot of the ring
  abbrev pub StartIn : List ℕ → Start → Type 0
  StartIn m (NoMemory i) = i.0 < slots ring
  StartIn m (Nothing i) = i.0 < slots ring
  StartIn m (Frame i d) = i.0 < slots ring

  -- a chain that goes on there
  abbrev ChainIn : Chain → Type 0
  ChainIn (Continue c) = c.slot.0 < slots ring
  ChainIn (Break e) = e.reach.slot.0 < slots ring

  abbrev pub ClosedIn : List ℕ → Closed → Type 0
  ClosedIn m c = c.reach.slot.0 < slots ring

  module _ (n : ℕ) (some : 0 < slots ring) where
    abbrev Ok : {A : Type 0} → (List ℕ → A → Type 0) → Bus A → List ℕ → Type 0
    Ok E p m = Within (Reads ring) (Gives ring) E p m

    -- passing to the start of a frame
    pub pass_within : (k : ℕ) (i : Slot) (m : List ℕ) → i.0 < slots ring → Ok StartIn (pass n ring k i) m
    unfolding pass without_own
    pass_within zero i m h = within_done _ _ _ _ m h
    pass_within (suc k) i m h =
        keeps_looked _ _ ring (λ m a q. inl q) n _ _ _ i _ m h
        (so_by (λ (p : Bus Start). Ok StartIn p m) (found n ring i m) _ _ _ (within_done _ _ _ _ m h) (within_done _ _ _ _ m h)
        (λ d e. so_if (λ (p : Bus Start). Ok StartIn p m) _ _ _ (within_done _ _ _ _ m h)
        (within_store _ _ _ (place ring i + 3) (d.status % 128) _ m (status i h refl (omega arith))
        (pass_within k (next ring i) _ (next_within ring i some)))))

    -- the chain from there
    grow_within : (d : Descriptor) (c : Reach) → c.slot.0 < slots ring → ChainIn (grow n ring d c)
    unfolding further
    grow_within d c h =
        let on : (next ring c.slot).0 < slots ring = next_within ring c.slot some in
        grown n ring d c ChainIn h (λ l. on) (λ l t. on) (λ l t. on)

    link_within : (c : Chain) (m : List ℕ) → ChainIn c → Ok (λ m c. ChainIn c) (link n ring c) m
    unfolding link
    link_within (Continue c) m h =
        keeps_looked _ _ ring (λ m a q. inl q) n _ _ _ c.slot _ m h
        (so_by (λ (p : Bus Chain). Ok (λ m c. ChainIn c) p m) (found n ring c.slot m) _ _ _ (within_done _ _ _ _ m h) (within_done _ _ _ _ m h)
        (λ d e. within_done _ _ _ _ m (grow_within d c h)))
    link_within (Break e) m h = within_done _ _ _ _ m h

    links_within : (k : ℕ) (c : Chain) (m : List ℕ) → ChainIn c → Ok (λ m c. ChainIn c) (links n ring k c) m
    unfolding links
    links_within zero c m h = within_done _ _ _ c m h
    links_within (suc k) c m h = within_then _ _ (λ m c. ChainIn c) _ (link n ring c) _ m (link_within c m h) (λ g m' e l. links_within k g m' l)

    closed_within : (c : Chain) (m : List ℕ) → ChainIn c → ClosedIn m (closed c)
    unfolding closed
    closed_within (Continue c) m h = h
    closed_within (Break e) m h = h

    pub chain_within : (i : Slot) (d : Descriptor) (m : List ℕ) → i.0 < slots ring → Ok ClosedIn (read_chain n ring i d) m
    unfolding read_chain
    chain_within i d m h =
        within_then _ _ (λ m c. ChainIn c) _ (links n ring (slots ring - 1) _) _ m (links_within (slots ring - 1) _ m (grow_within d _ h))
        (λ c m' e l. within_done _ _ _ _ m' (closed_within c m' l))

-- a slot reached from one of a ring's is one of them
pub later_within : (ring : Ring) (k : ℕ) (i : Slot) → i.0 < slots ring → (later ring k i).0 < slots ring
unfolding later
later_within ring zero i h = h
later_within ring (suc k) i h = later_within ring k (next ring i) (next_within ring i (omega arith))

-- a chain that was read from slot i on: each of its slots is owned
module _ (n : ℕ) (ring : Ring) (m : List ℕ) (i : Slot) where
  abbrev pub OwnedTo : Reach → Type 0
  OwnedTo c = (x : ℕ) → x < c.slots → 128 ≤ get_or m (place ring (later ring x i) + 3) 0

  record Chained (c : Reach) : Type 0 where
    slot : c.slot ≡ later ring c.slots i
    owned : OwnedTo c

  unfoldable Held : Chain → Type 0
  Held (Continue c) = Chained c
  Held (Break e) = OwnedTo e.reach

  grow_held : (c : Reach) (d : Descriptor) → found n ring c.slot m ≡ Owned d → Chained c → Held (grow n ring d c)
  unfolding Held further
  grow_held c d f h =
      let more : OwnedTo (further ring d c) =
      λ x l. ⊎_elim (λ (e : x ≡ c.slots). subst (λ (j : Slot). 128 ≤ get_or m (place ring j + 3) 0) (h.slot ∙ ap (λ (y : ℕ). later ring y i) (sym e)) (found_owned n ring c.slot m d f))
      (λ (b : x < c.slots). h.owned x b) (eq-or-lt_of_le {n = x} {m = c.slots} (omega arith)) in
      grown n ring d c Held h.owned (λ l. more) (λ l t. more)
      (λ l t. record { slot = ap (next ring) h.slot ∙ sym (later_last ring c.slots i) ∙ ap (λ (y : ℕ). later ring y i) (sym (add-one c.slots)); owned = more })

  closed_owned : (c : Chain) → Held c → OwnedTo (closed c).reach
  unfolding Held closed
  closed_owned (Continue c) h = h.owned
  closed_owned (Break e) h = h

  pub chain_owned : (d : Descriptor) (c : Closed) (m' : List ℕ) → found n ring i m ≡ Owned d → run (read_chain n ring i d) m ≡ record { answer = c; memory = m' }
      → OwnedTo c.reach
  unfolding Held later
  chain_owned d c m' f e =
      subst (λ (x : Ended Closed). OwnedTo x.answer.reach) (sym (run_chain n ring m i d) ∙ e)
      (closed_owned _
      (kept n ring m Held (λ e r h. h.owned) grow_held (slots ring - 1) _
      (grow_held (record { slot = i; slots = 0; total = 0 }) d f (record { slot = refl; owned = λ x l. absurd (omega arith) }))))
