-- Looking at a slot loads its descriptor and nothing else.
use Prim.Native.Nat.{ℕ, ◌+◌, ◌≤◌, ◌<◌}
use native.Mathlib.Omega.{arith}
use mathlib.Core.Path.{◌≡◌, refl, sym, ap, subst, ◌∙◌}
use mathlib.Core.Bool.{Bool, true, false}
use mathlib.Core.Logic.{◌⊎◌}
use mathlib.Core.List.{List}
use lib.ListN.{get_or}
use lib.Dec.{leb, lit<}
use borrow.Author.Tests.{leb-true}
use Rattle.std.specs.Prelude.{if◌then◌else◌}
use Rattle.bus.specs.Words.{part}
use Rattle.bus.specs.Bus.{Bus, Ended, reads, ◌>>=◌}
use Rattle.bus.specs.Within.{Keeps, Within}
use Rattle.bus.proofs.Bytes.{get_d_part}
use Rattle.bus.proofs.Within.{so_if, none, keeps_more, keeps_then, within_done, within_then, within_reads}
use Rattle.ring.specs.declared.Slot.{Slot}
use Rattle.ring.specs.declared.Ring.{Ring}
use Rattle.ring.specs.declared.Descriptor.{Descriptor}
use Rattle.ring.specs.declared.Found.{Found}
use Rattle.ring.specs.declared.Found.TheVariants.{Outside, NotOwned, Owned}
use Rattle.ring.specs.Slots.{slots, place}
use Rattle.ring.specs.Descriptor.{look, found_in, described, by◌outside:◌not_owned:◌owned:◌}
use Rattle.ring.specs.Places.{descriptor, InRing}
use Rattle.ring.proofs.Finding.{found, run_look, found_is}

-- what is so of three things is so of the one for what is found
pub so_by : {A : Type 0} (P : A → Type 0) (f : Found) (x y : A) (g : Descriptor → A) → P x → P y → ((d : Descriptor) → f ≡ Owned d → P (g d))
    → P (by f outside: x not_owned: y owned: g)
unfolding by◌outside:◌not_owned:◌owned:◌
so_by P Outside x y g p q r = p
so_by P NotOwned x y g p q r = q
so_by P (Owned d) x y g p q r = r d refl

-- a descriptor that is found owned has OWN set
owns : (b o : Bool) (x : ℕ) (bs : List ℕ) (d : Descriptor) → leb 128 x ≡ o
    → (if b then (if o then Owned (described bs) else NotOwned) else Outside) ≡ Owned d → 128 ≤ x
owns true true x bs d t e = leb-true 128 x t
owns true false x bs d t e = let z : ◌≡◌ {A = ℕ} 0 1 = cc in omega arith
owns false o x bs d t e = let z : ◌≡◌ {A = ℕ} 0 1 = cc in omega arith

pub found_owned : (n : ℕ) (r : Ring) (i : Slot) (m : List ℕ) (d : Descriptor) → found n r i m ≡ Owned d → 128 ≤ get_or m (place r i + 3) 0
unfolding found found_in
found_owned n r i m d e =
    subst (λ (x : ℕ). 128 ≤ x) (get_d_part 8 3 (place r i) m (lit< tt))
    (owns (leb (place r i + 8) n) _ (get_or (part m (place r i) 8) 3 0) (part m (place r i) 8) d refl e)

-- .. and says what stands in memory
pub found_described : (n : ℕ) (r : Ring) (i : Slot) (m : List ℕ) (d : Descriptor) → found n r i m ≡ Owned d → d ≡ descriptor r m i
unfolding descriptor
found_described = found_is

-- the bytes of a descriptor are in its ring
pub in_ring : (r : Ring) (i : Slot) → i.0 < slots r → (k : ℕ) → k < 8 → InRing r (place r i + k)
in_ring r i h k l = record { slot = i; within = h; from = omega arith; to = omega arith }

-- in a ring whose descriptors may be loaded
module _ (L : List ℕ → ℕ → Type 0) (S : List ℕ → ℕ → ℕ → Type 0) (r : Ring) (may : (m : List ℕ) (a : ℕ) → InRing r a → L m a) (n : ℕ) where
  pub within_look : (i : Slot) (m : List ℕ) → i.0 < slots r → Within L S (λ m' f. Unit {0}) (look n r i) m
  unfolding look
  within_look i m h =
      so_if (λ (p : Bus Found). Within L S (λ m' f. Unit {0}) p m) _ _ _
      (within_then L S (λ m' bs. Unit {0}) _ (reads (place r i) 8) _ m
      (within_reads L S _ (place r i) 8 m (λ k l. may m _ (in_ring r i h k l)) tt) (λ bs m' e u. within_done L S _ _ m' tt))
      (within_done L S _ _ m tt)

  -- .. and what is then done, with what was found
  pub keeps_looked : {A : Type 0} (E : List ℕ → A → Type 0) (b : ℕ → Type 0) (s : ℕ → ℕ → Type 0) (i : Slot) (k : Found → Bus A) (m : List ℕ)
      → i.0 < slots r → Keeps L S E b s (k (found n r i m)) m → Keeps L S E b s (look n r i >>= k) m
  keeps_looked E b s i k m h next =
      keeps_then L S (λ m' f. Unit {0}) E b s (look n r i) k m (keeps_more L S _ _ b _ s (look n r i) m (λ x. none) (λ x y. none) (within_look i m h))
      (λ f m' b' s' e u p q.
      let same : m ≡ m' = ap (λ (x : Ended Found). x.memory) (sym (run_look n r i m) ∙ e) in
      let is : found n r i m ≡ f = ap (λ (x : Ended Found). x.answer) (sym (run_look n r i m) ∙ e) in
      keeps_more L S E b b' s s' (k f) m' (subst (λ (l : List ℕ). (x : ℕ) → b x ⊎ L l x → b' x ⊎ L m' x) same p)
      (subst (λ (l : List ℕ). (x y : ℕ) → s x y ⊎ S l x y → s' x y ⊎ S m' x y) same q)
      (subst (λ (l : List ℕ). Keeps L S E b s (k f) l) same (subst (λ (g : Found). Keeps L S E b s (k g) m) is next)))
