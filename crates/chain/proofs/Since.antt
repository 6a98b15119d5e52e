-- What a turn stores takes no buffer that the card did not own when the call began.
use Prim.Native.Nat.{ℕ, ◌+◌, ◌*◌, ◌≤◌, ◌<◌}
use native.Mathlib.Decide.{ℕ_discrete, dec_lt}
use native.Mathlib.Omega.{arith}
use mathlib.Core.Path.{◌≡◌, refl, sym, ap, subst, ◌∙◌}
use mathlib.Core.List.{List}
use lib.ListN.{length, get_or, set, get_or-eq_default}
use lib.Dec.{lit<}
use lib.Seq.{get_or-set_same, get_or-set_other, set_out}
use Rattle.ring.specs.declared.Slot.{Slot}
use Rattle.ring.specs.declared.Ring.{Ring}
use Rattle.ring.specs.declared.Descriptor.{Descriptor}
use Rattle.ring.specs.Slots.{slots, place}
use Rattle.ring.specs.Places.{descriptor, InBuffer}
use Rattle.ring.proofs.Finding.{same_descriptor}
use Rattle.chain.proofs.Touching.{Gives, status, tmd3}

-- the places of two slots of a ring don't meet
apart : (ring : Ring) (i j : Slot) (k l : ℕ) → k < 8 → l < 8 → (i.0 ≡ j.0 → ⊥) → place ring i + k ≡ place ring j + l → ⊥
unfolding place
apart ring i j k l hk hl n e = n (omega arith)

-- slots with one number stand in one place
together : (ring : Ring) (i j : Slot) → i.0 ≡ j.0 → place ring i ≡ place ring j
unfolding place
together ring i j e = ap (λ (x : ℕ). ring.base + 8 * x) e

-- a byte below 128 that was stored is read so, or nothing was stored and nothing is there
stored_below : (m : List ℕ) (a v : ℕ) → v < 128 → get_or (set m a v) a 0 < 128
stored_below m a v l = go (dec_lt a (length m))
  where
    go : Dec (a < length m) → get_or (set m a v) a 0 < 128
    go (yes h) = subst (λ (x : ℕ). x < 128) (sym (get_or-set_same m a v 0 h)) l
    go (no h) =
        let o : length m ≤ a = omega arith in
        subst (λ (x : ℕ). x < 128) (sym (ap (λ (x : List ℕ). get_or x a 0) (set_out m a v o) ∙ get_or-eq_default m 0 o)) (lit< tt)

module _ (ring : Ring) (s : List ℕ) where
  -- a descriptor that is owned now was owned when the call began, and names the same buffer
  pub record Since (m : List ℕ) : Type 0 where
    pub owned : (j : Slot) → j.0 < slots ring → 128 ≤ get_or m (place ring j + 3) 0 → 128 ≤ get_or s (place ring j + 3) 0
    pub same : (j : Slot) → j.0 < slots ring → 128 ≤ get_or m (place ring j + 3) 0 → descriptor ring m j ≡ descriptor ring s j

  -- so at the start
  pub since_start : Since s
  since_start = record { owned = λ j w o. o; same = λ j w o. refl }

  -- a store to byte k of slot i leaves what a slot that is owned then says
  module _ (m : List ℕ) (i : Slot) (k v : ℕ) (l : k < 8) (kind : (k ≡ 3 → v < 128)) (late : (k ≡ 3 → ⊥) → 6 ≤ k) where
    spared : (j : Slot) → 128 ≤ get_or (set m (place ring i + k) v) (place ring j + 3) 0 → (x : ℕ) → x < 6
        → get_or (set m (place ring i + k) v) (place ring j + x) 0 ≡ get_or m (place ring j + x) 0
    spared j o x b = go (ℕ_discrete j.0 i.0) (ℕ_discrete k 3)
      where
        go : Dec (j.0 ≡ i.0) → Dec (k ≡ 3) → get_or (set m (place ring i + k) v) (place ring j + x) 0 ≡ get_or m (place ring j + x) 0
        go (no n) d = get_or-set_other m (place ring i + k) (place ring j + x) v 0 (apart ring j i x k (omega arith) l n)
        go (yes e) (yes t) =
            let p : place ring j + 3 ≡ place ring i + k = omega (arith, together ring j i e) in
            let q : get_or (set m (place ring i + k) v) (place ring i + k) 0 < 128 = stored_below m (place ring i + k) v (kind t) in
            let r : 128 ≤ get_or (set m (place ring i + k) v) (place ring i + k) 0 = subst (λ (a : ℕ). 128 ≤ get_or (set m (place ring i + k) v) a 0) p o in
            absurd (omega arith)
        go (yes e) (no t) =
            let b₆ : 6 ≤ k = late t in
            get_or-set_other m (place ring i + k) (place ring j + x) v 0 (λ c. omega (arith, together ring j i e))

    since_byte : Since m → Since (set m (place ring i + k) v)
    since_byte h =
        record {
          owned = λ j w o. h.owned j w (was j o);
          same = λ j w o. same_descriptor ring (set m (place ring i + k) v) m j (spared j o) ∙ h.same j w (was j o);
        }
      where
        was : (j : Slot) → 128 ≤ get_or (set m (place ring i + k) v) (place ring j + 3) 0 → 128 ≤ get_or m (place ring j + 3) 0
        was j o = subst (λ (x : ℕ). 128 ≤ x) (spared j o 3 (lit< tt)) o

  -- .. so after each store of a turn
  pub since_given : (m m' : List ℕ) (a b : ℕ) → Since m → Gives ring m a b → Since m' → Since (set m' a b)
  since_given m m' a b u (status i w e l) h =
      subst (λ (x : ℕ). Since (set m' x b)) (sym e) (since_byte m' i 3 b (lit< tt) (λ t. l) (λ t. absurd (t refl)) h)
  since_given m m' a b u (tmd3 i k w lo hi e) h =
      subst (λ (x : ℕ). Since (set m' x b)) (sym e) (since_byte m' i k b hi (λ t. absurd (omega arith)) (λ t. lo) h)

  -- a byte of a buffer that is owned now is one of a buffer that was owned then
  pub since_buffer : (m : List ℕ) (a : ℕ) → Since m → InBuffer ring m a → InBuffer ring s a
  since_buffer m a h q =
      let e : descriptor ring m q.slot ≡ descriptor ring s q.slot = h.same q.slot q.within q.owned in
      record {
        slot = q.slot;
        within = q.within;
        owned = h.owned q.slot q.within q.owned;
        from = subst (λ (d : Descriptor). d.address ≤ a) e q.from;
        to = subst (λ (d : Descriptor). a < d.address + d.count) e q.to;
      }
