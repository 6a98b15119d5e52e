-- What a turn touches: it loads the ring's descriptors and buffers that the card owns, takes OWN from descriptors and writes TMD3, and
-- ends at a slot of the ring.
use Prim.Native.Nat.{ℕ, zero, suc, ◌+◌, ◌-◌, ◌%◌, ◌≤◌, ◌<◌}
use native.Mathlib.Omega.{arith}
use mathlib.Core.Path.{◌≡◌, refl, sym, ap, subst, ◌∙◌}
use mathlib.Core.Bool.{Bool, true, false, ◌&&◌}
use mathlib.Core.Logic.{inl, inr}
use mathlib.Core.List.{List}
use lib.ListN.{get_or}
use lib.Dec.{eqb, leb, lit<}
use Rattle.bus.specs.Bits.{weigh}
use Rattle.bus.specs.Words.{bytes_of}
use Rattle.bus.specs.Bus.{Bus, done, bytes, run, Ended, Handed, empty_handed, ◌>>◌}
use Rattle.bus.specs.Within.{Within}
use Rattle.bus.proofs.Within.{so_if, within_done, within_load, within_store, within_then, within_next, within_read, within_bytes}
use Rattle.ring.specs.declared.Slot.{Slot}
use Rattle.ring.specs.declared.Ring.{Ring}
use Rattle.ring.specs.declared.Found.TheVariants.{Owned}
use Rattle.ring.specs.Slots.{slots, next, place}
use Rattle.ring.specs.Status.{without_own}
use Rattle.ring.specs.Places.{descriptor}
use Rattle.ring.proofs.Finding.{found}
use Rattle.ring.proofs.Loaded.{next_within}
use Rattle.ring.proofs.Looking.{in_ring}
use Rattle.chain.specs.declared.Start.{Start}
use Rattle.chain.specs.declared.Start.TheVariants.{NoMemory, Nothing, Frame}
use Rattle.chain.specs.declared.Reach.{Reach}
use Rattle.chain.specs.declared.Close.{Close}
use Rattle.chain.specs.declared.Close.TheVariants.{Whole, Memory, Short, Long}
use Rattle.chain.specs.declared.Closed.{Closed}
use Rattle.chain.specs.Start.{pass}
use Rattle.chain.specs.Chain.{read_chain}
use Rattle.chain.specs.Inner.Laid.{later}
use Rattle.chain.proofs.Passing.{pass_owned}
use Rattle.chain.proofs.Chains.{run_chain}
use Rattle.chain.proofs.Touching.{Reads, Gives, status, tmd3, StartIn, ClosedIn, OwnedTo, pass_within, chain_within, chain_owned}
use Rattle.transmit.specs.declared.Turned.{Turned}
use Rattle.transmit.specs.declared.Report.{Report}
use Rattle.transmit.specs.Report.{stays, hands_out, reported}
use Rattle.transmit.specs.Turn.{without, handing, finish, gather, release, give_back, send, ending, go_on, turn}

-- what a status is at most, without OWN
weighs : (b : Bool) (w : ℕ) → weigh b w ≤ w
unfolding weigh
weighs true w = omega arith
weighs false w = omega arith

reported_small : (w : Report) → reported w ≤ 92
unfolding reported
reported_small w =
    omega (arith, weighs (eqb w.result 1) 8, weighs (eqb w.result 2) 16, weighs (w.deferred && hands_out w) 4, weighs (leb 3 w.result) 64)

-- a turn that ends at a slot of the ring
abbrev pub TurnIn : Ring → List ℕ → Handed Turned → Type 0
TurnIn ring m t = t.answer.slot.0 < slots ring

module _ (ring : Ring) (some : 0 < slots ring) where
  abbrev Ok : {A : Type 0} → (List ℕ → A → Type 0) → Bus A → List ℕ → Type 0
  Ok E p m = Within (Reads ring) (Gives ring) E p m

  -- a chain that is given back
  release_within : (k : ℕ) (i : Slot) (m : List ℕ) → i.0 < slots ring → Ok (λ m j. j.0 < slots ring) (release ring k i) m
  unfolding release without_own
  release_within zero i m h = within_done _ _ _ i m h
  release_within (suc k) i m h =
      within_load _ _ _ (place ring i + 3) _ m (inl (in_ring ring i h 3 (lit< tt)))
      (within_store _ _ _ (place ring i + 3) (get_or m (place ring i + 3) 0 % 128) _ m (status i h refl (omega arith))
      (release_within k (next ring i) _ (next_within ring i some)))

  finish_within : (says word : ℕ) (i : Slot) (m : List ℕ) → says ≤ 92 → i.0 < slots ring → Ok (λ m u. Unit {0}) (finish ring says word i) m
  unfolding finish stays bytes_of
  finish_within says word i m l h =
      within_load _ _ _ (place ring i + 3) _ m (inl (in_ring ring i h 3 (lit< tt)))
      (within_next _ _ _ (bytes (place ring i + 6) (bytes_of 2 word)) _ m
      (within_bytes _ _ _ (place ring i + 6) (bytes_of 2 word) m (λ j b. tmd3 i (6 + j) h (omega arith) (omega arith) (omega arith)) tt)
      (λ m'. within_store _ _ _ (place ring i + 3) _ (done tt) m' (status i h refl (omega arith)) (within_done _ _ _ tt _ tt)))

  back_within : (says word k : ℕ) (i : Slot) (m : List ℕ) → says ≤ 92 → i.0 < slots ring → Ok (λ m u. Unit {0}) (give_back ring says word k i) m
  unfolding give_back
  back_within says word k i m l h =
      within_then _ _ (λ m j. j.0 < slots ring) _ (release ring (k - 1) i) _ m (release_within (k - 1) i m h)
      (λ j m' e b. finish_within says word j m' l b)

  -- the buffers of slots that are owned
  gather_within : (k : ℕ) (i : Slot) (m : List ℕ) → i.0 < slots ring → ((x : ℕ) → x < k → 128 ≤ get_or m (place ring (later ring x i) + 3) 0)
      → Ok (λ m f. Unit {0}) (gather ring k i) m
  unfolding gather later descriptor
  gather_within zero i m h o = within_done _ _ _ _ m tt
  gather_within (suc k) i m h o =
      within_read _ _ _ (place ring i) 8 _ m (λ x l. inl (in_ring ring i h x l))
      (within_read _ _ _ (descriptor ring m i).address (descriptor ring m i).count _ m
      (λ x l. inr (record { slot = i; within = h; owned = o 0 (omega arith); from = omega arith; to = omega arith }))
      (within_then _ _ (λ m f. Unit {0}) _ (gather ring k (next ring i)) _ m
      (gather_within k (next ring i) m (next_within ring i some) (λ x l. o (suc x) (omega arith))) (λ f m' e u. within_done _ _ _ _ m' tt)))

  module _ (w : Report) where
    ending_within : (append : Bool) (i : Slot) (x : Close) (c : Reach) (m : List ℕ) → i.0 < slots ring → c.slot.0 < slots ring
        → ((x : ℕ) → x < c.slots → 128 ≤ get_or m (place ring (later ring x i) + 3) 0) → Ok (TurnIn ring) (ending ring w append i x c) m
    unfolding ending send without handing empty_handed ◌>>◌
    ending_within append i Whole c m h l o =
        so_if (λ (p : Bus (Handed Turned)). Ok (TurnIn ring) p m) _ _ _
        (within_then _ _ (λ m f. Unit {0}) _ (gather ring c.slots i) _ m (gather_within c.slots i m h o)
        (λ f m' e u. within_next _ _ _ (give_back ring _ _ c.slots i) _ m' (back_within _ _ c.slots i m' (reported_small w) h) (λ m''. within_done _ _ _ _ m'' l)))
        (within_next _ _ _ (give_back ring _ _ c.slots i) _ m (back_within _ _ c.slots i m (reported_small w) h) (λ m'. within_done _ _ _ _ m' l))
    ending_within append i Memory c m h l o = within_done _ _ _ _ m h
    ending_within append i Short c m h l o =
        within_next _ _ _ (give_back ring _ _ c.slots i) _ m (back_within _ _ c.slots i m (omega arith) h) (λ m'. within_done _ _ _ _ m' l)
    ending_within append i Long c m h l o =
        within_next _ _ _ (give_back ring _ _ c.slots i) _ m (back_within _ _ c.slots i m (omega arith) h) (λ m'. within_done _ _ _ _ m' l)

    on_within : (n : ℕ) (always : Bool) (s : Start) (m₀ m : List ℕ) → StartIn ring m s
        → run (pass n ring (slots ring) ring.slot) m₀ ≡ record { answer = s; memory = m } → Ok (TurnIn ring) (go_on n ring w always s) m
    unfolding go_on without empty_handed
    on_within n always (NoMemory i) m₀ m h e = within_done _ _ _ _ m h
    on_within n always (Nothing i) m₀ m h e = within_done _ _ _ _ m h
    on_within n always (Frame i d) m₀ m h e =
        let own : found n ring i m ≡ Owned d = pass_owned n ring (slots ring) ring.slot i d m₀ m e in
        within_then _ _ (ClosedIn ring) _ (read_chain n ring i d) _ m (chain_within ring n some i d m h)
        (λ c m' r l. ending_within _ i c.close c.reach m' h l
        (subst (λ (k : List ℕ). OwnedTo n ring k i c.reach) (ap (λ (x : Ended Closed). x.memory) (sym (run_chain n ring m i d) ∙ r)) (chain_owned n ring m i d c m' own r)))

  -- the whole turn
  pub turn_within : (n mode : ℕ) (w : Report) (m : List ℕ) → ring.slot.0 < slots ring → Ok (TurnIn ring) (turn n ring mode w) m
  unfolding turn
  turn_within n mode w m h =
      within_then _ _ (StartIn ring) _ (pass n ring (slots ring) ring.slot) _ m (pass_within ring n some (slots ring) ring.slot m h)
      (λ s m' e l. on_within _ n _ s m m' l e)
