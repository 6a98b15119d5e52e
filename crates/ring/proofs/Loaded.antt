-- Rings that an initialization loads are sound, and stay so as their slots move on.
use Prim.Native.Nat.{ℕ, zero, suc, ◌+◌, ◌*◌, ◌/◌, ◌%◌, ◌^◌, ◌<◌}
use native.Mathlib.Omega.{arith}
use mathlib.Core.Path.{◌≡◌, refl}
use mathlib.Core.Bool.{Bool, true, false, ◌&&◌, and-eq-true_iff}
use lib.Dec.{ltb}
use borrow.Author.Tests.{ltb-true, lt-ltb, eq-eqb}
use Rattle.std.specs.Prelude.{if◌then◌else◌}
use Rattle.ring.specs.declared.Slot.{Slot}
use Rattle.ring.specs.declared.Ring.{Ring}
use Rattle.ring.specs.Slots.{slots, next, moved}
use Rattle.ring.specs.Loading.{from_words, is_length, loaded}

-- "Slots are 2 to the power of the three bits"
lengths : (k : ℕ) → k < 8 → (is_length (2 ^ k) && ltb 0 (2 ^ k)) ≡ true
lengths zero h = refl
lengths (suc zero) h = refl
lengths (suc (suc zero)) h = refl
lengths (suc (suc (suc zero))) h = refl
lengths (suc (suc (suc (suc zero)))) h = refl
lengths (suc (suc (suc (suc (suc zero))))) h = refl
lengths (suc (suc (suc (suc (suc (suc zero)))))) h = refl
lengths (suc (suc (suc (suc (suc (suc (suc zero))))))) h = refl
lengths (suc (suc (suc (suc (suc (suc (suc (suc k)))))))) h = absurd (omega arith)

-- a ring from two words is loaded
pub words_loaded : (low high : ℕ) → low < 65536 → high < 65536 → loaded (from_words low high) ≡ true
unfolding loaded from_words slots
words_loaded low high l h =
    let kept : (low / 8 * 8 + 65536 * (high % 256)) % 0x1000000 / 8 * 8 ≡ low / 8 * 8 + 65536 * (high % 256) = omega arith in
    (and-eq-true_iff (is_length (2 ^ (high / 8192)) && ltb 0 (2 ^ (high / 8192))) _).1
    (lengths (high / 8192) (omega arith), eq-eqb _ _ kept)

-- the slot of a loaded ring is in it
pub slot_within : (r : Ring) → loaded r ≡ true → r.slot.0 < slots r
unfolding loaded
slot_within r e =
    let both = (and-eq-true_iff _ _).0 e in
    ltb-true _ _ ((and-eq-true_iff (is_length r.length) _).0 both.0).1

-- .. and may be any that is
pub moved_loaded : (r : Ring) (i : Slot) → loaded r ≡ true → i.0 < slots r → loaded (moved r i) ≡ true
unfolding loaded slots
moved_loaded r i e h =
    let both = (and-eq-true_iff _ _).0 e in
    (and-eq-true_iff (is_length r.length && ltb i.0 r.length) _).1
    ((and-eq-true_iff (is_length r.length) _).1 (((and-eq-true_iff (is_length r.length) _).0 both.0).0, lt-ltb _ _ h), both.1)

-- the slot after any slot of a ring that has slots is in it
pub next_within : (r : Ring) (i : Slot) → 0 < slots r → (next r i).0 < slots r
unfolding next
next_within r i h = go (ltb (i.0 + 1) (slots r)) refl
  where
    go : (b : Bool) → ltb (i.0 + 1) (slots r) ≡ b → (if◌then◌else◌ {A = Slot} b (record { 0 = i.0 + 1 }) (record { 0 = 0 })).0 < slots r
    go true e = ltb-true (i.0 + 1) (slots r) e
    go false e = h
