-- What reading a chain shows of its slots.
use mathlib.Core.Path.{◌≡◌, refl, sym, ap, subst, ◌∙◌}
use mathlib.Core.List.{List, []}
use mathlib.Core.Logic.{⊎_elim}
use Prim.Native.Nat.{ℕ, zero, suc, ◌+◌, ◌-◌, ◌≤◌, ◌<◌}
use native.Mathlib.Nat.{eq-or-lt_of_le}
use native.Mathlib.Numerals.{add-one}
use native.Mathlib.Omega.{arith}
use lib.ListN.{length, length-append}
use Rattle.std.specs.declared.ops.ControlFlow.TheVariants.{Continue, Break}
use Rattle.bus.specs.Bus.{run, Ended}
use Rattle.bus.proofs.Bytes.{length_part}
use Rattle.ring.specs.declared.Slot.{Slot}
use Rattle.ring.specs.declared.Ring.{Ring}
use Rattle.ring.specs.declared.Descriptor.{Descriptor}
use Rattle.ring.specs.declared.Found.TheVariants.{Owned}
use Rattle.ring.specs.Slots.{slots, next}
use Rattle.ring.specs.Places.{descriptor}
use Rattle.ring.proofs.Finding.{found, found_inside, found_is}
use Rattle.chain.specs.declared.Reach.{Reach}
use Rattle.chain.specs.declared.Close.{Close}
use Rattle.chain.specs.declared.Close.TheVariants.{Whole, Memory, Short, Long}
use Rattle.chain.specs.declared.Closed.{Closed}
use Rattle.chain.specs.Chain.{Chain, further, grow, closed, read_chain}
use Rattle.chain.specs.Inner.Laid.{later, buffer, buffers, Inside, Laid, Ready}
use Rattle.chain.proofs.Chains.{grown, linkeds, kept, run_chain}

-- the slot after k slots comes after the slot that is the last of them
pub later_last : (ring : Ring) (k : ℕ) (i : Slot) → later ring (suc k) i ≡ next ring (later ring k i)
unfolding later
later_last ring zero i = refl
later_last ring (suc k) i = later_last ring k (next ring i)

module _ (m : List ℕ) (ring : Ring) where
  -- the bytes of one slot more
  buffers_last : (k : ℕ) (i : Slot)
      → length (buffers m ring (suc k) i) ≡ length (buffers m ring k i) + length (buffer m ring (later ring k i))
  unfolding buffers later
  buffers_last zero i = length-append (buffer m ring i) [] ∙ omega arith
  buffers_last (suc k) i =
      length-append (buffer m ring i) (buffers m ring (suc k) (next ring i))
      ∙ omega (arith, buffers_last k (next ring i), length-append (buffer m ring i) (buffers m ring k (next ring i)))

  -- how far a chain from slot i was read
  record Reached (i : Slot) (r : Reach) : Type 0 where
    slot : r.slot ≡ later ring r.slots i
    laid : Laid m ring r.slots i
    total : r.total ≡ length (buffers m ring r.slots i)

  -- one slot more
  laid_more : (k : ℕ) (i : Slot) → Laid m ring k i → Inside m ring (later ring k i) → Laid m ring (k + 1) i
  laid_more k i l h =
      record { at = λ x y. ⊎_elim (λ (p : x ≡ k). rw p h) (λ (p : x < k). l.at x p) (eq-or-lt_of_le {n = x} {m = k} (omega arith)) }

  module _ (i : Slot) (r : Reach) (d : Descriptor) (h : Reached i r) (f : found (length m) ring r.slot m ≡ Owned d) where
    is_descriptor : d ≡ descriptor ring m r.slot
    unfolding descriptor
    is_descriptor = found_is (length m) ring r.slot m d f

    long : length (buffer m ring r.slot) ≡ d.count
    unfolding buffer
    long = length_part _ _ m ∙ ap (λ (x : Descriptor). x.count) (sym is_descriptor)

    reached_more : d.address + d.count ≤ length m → Reached i (further ring d r)
    unfolding further
    reached_more l =
        let here : Inside m ring r.slot = record { placed = found_inside (length m) ring r.slot m d f; filled = rw is_descriptor at l } in
        record {
          slot = rw add-one (ap (next ring) h.slot ∙ sym (later_last ring r.slots i));
          laid = laid_more r.slots i h.laid (rw h.slot at here);
          total =
              rw add-one
              (sym (buffers_last r.slots i
              ∙ subst (λ (j : Slot). length (buffers m ring r.slots i) + length (buffer m ring j) ≡ r.total + d.count) h.slot
              (omega (arith, h.total, long))));
        }

  -- a chain that goes on can be sent where it ends so
  record Full (i : Slot) (r : Reach) : Type 0 where
    reached : Reached i r
    some : 0 < r.slots
    fits : r.total ≤ 4096

  full_ready : (i : Slot) (r : Reach) (e : Close) → Full i r → Ready m ring r.slots i e
  unfolding Ready
  full_ready i r Whole h =
      record { given = record { laid = h.reached.laid; some = h.some }; fits = rw h.reached.total at h.fits }
  full_ready i r Memory h = tt
  full_ready i r Short h = record { laid = h.reached.laid; some = h.some }
  full_ready i r Long h = record { laid = h.reached.laid; some = h.some }

  -- what is so of a chain while it is read
  unfoldable Held : Slot → Chain → Type 0
  Held i (Continue r) = Full i r
  Held i (Break e) = Ready m ring e.reach.slots i e.close

  -- .. is so as it grows
  grow_held : (i : Slot) (r : Reach) (d : Descriptor) → Reached i r → found (length m) ring r.slot m ≡ Owned d → Held i (grow (length m) ring d r)
  unfolding Held Ready further
  grow_held i r d h f =
      let full : d.address + d.count ≤ length m → r.total + d.count ≤ 4096 → Full i (further ring d r) =
      λ l t. record { reached = reached_more i r d h f l; some = omega arith; fits = t } in
      grown (length m) ring d r (Held i) tt (λ l. record { laid = (reached_more i r d h f l).laid; some = omega arith })
      (λ l t. full_ready i (further ring d r) Whole (full l t)) full

  -- .. and before its first slot
  none : (i : Slot) → Reached i (record { slot = i; slots = 0; total = 0 })
  unfolding later buffers
  none i = record { slot = refl; laid = record { at = λ x y. absurd (omega arith) }; total = refl }

  closed_ready : (i : Slot) (c : Chain) → Held i c → Ready m ring (closed c).reach.slots i (closed c).close
  unfolding Held closed
  closed_ready i (Continue r) h = full_ready i r Short h
  closed_ready i (Break e) h = h

  pub chain_ready : (i : Slot) (d : Descriptor) (c : Closed) → found (length m) ring i m ≡ Owned d
      → run (read_chain (length m) ring i d) m ≡ record { answer = c; memory = m } → Ready m ring c.reach.slots i c.close
  unfolding Held
  chain_ready i d c f e =
      let first : Chain = grow (length m) ring d (record { slot = i; slots = 0; total = 0 }) in
      let last : Chain = linkeds (length m) ring m (slots ring - 1) first in
      let a : closed last ≡ c = ap (λ (x : Ended Closed). x.answer) (sym (run_chain (length m) ring m i d) ∙ e) in
      let h : Held i last =
      kept (length m) ring m (Held i) (λ e r h. full_ready i r e h) (λ r d f h. grow_held i r d h.reached f) (slots ring - 1) first
      (grow_held i (record { slot = i; slots = 0; total = 0 }) d (none i) f) in
      subst (λ (x : Closed). Ready m ring x.reach.slots i x.close) a (closed_ready i last h)
