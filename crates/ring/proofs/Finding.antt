-- What a descriptor's bytes say, and the three ways of reading one.
use mathlib.Core.Path.{◌≡◌, refl, sym, ap, ◌∙◌}
use mathlib.Core.List.{List}
use mathlib.Core.Bool.{Bool, true, false}
use Prim.Native.Nat.{ℕ, ◌+◌, ◌*◌, ◌≤◌, ◌<◌}
use native.Mathlib.Nat.{add-zero}
use native.Mathlib.Omega.{arith}
use lib.ListN.{length, get_or}
use lib.Dec.{leb, lit<}
use borrow.Author.Tests.{le-leb, lt-leb, leb-true}
use Rattle.std.specs.Prelude.{if◌then◌else◌}
use Rattle.bus.specs.Words.{joined, part}
use Rattle.bus.specs.Bus.{run, Ended, done, reads, ◌>>=◌}
use Rattle.bus.proofs.Bytes.{get_d_part}
use Rattle.bus.proofs.Run.{run_done, run_reads, after}
use Rattle.ring.specs.declared.Slot.{Slot}
use Rattle.ring.specs.declared.Ring.{Ring}
use Rattle.ring.specs.declared.Descriptor.{Descriptor}
use Rattle.ring.specs.declared.Found.{Found}
use Rattle.ring.specs.declared.Found.TheVariants.{Outside, NotOwned, Owned}
use Rattle.ring.specs.Slots.{place}
use Rattle.ring.specs.Descriptor.{look, found_in, described, count_of, by◌outside:◌not_owned:◌owned:◌}
use Rattle.ring.specs.Places.{descriptor}

-- one of a descriptor's bytes
byte : (m : List ℕ) (at k : ℕ) → k < 8 → get_or (part m at 8) k 0 ≡ get_or m (at + k) 0
byte m at k h = get_d_part 8 k at m h

-- what a descriptor's bytes say
pub described_bytes : (m : List ℕ) (at a n : ℕ)
    → a ≡ joined (get_or m at 0) (get_or m (at + 1) 0) + 65536 * get_or m (at + 2) 0
    → n ≡ count_of (joined (get_or m (at + 4) 0) (get_or m (at + 5) 0))
    → record { address = a; status = get_or m (at + 3) 0; count = n } ≡ described (part m at 8)
unfolding described
described_bytes m at a n ea en =
    rw (byte m at 0 (lit< tt), byte m at 1 (lit< tt), byte m at 2 (lit< tt), byte m at 3 (lit< tt), byte m at 4 (lit< tt), byte m at 5 (lit< tt), add-zero at, ← ea, ← en)

-- what stands at a slot of a memory
unfoldable pub found : ℕ → Ring → Slot → List ℕ → Found
found n r i m = if leb (place r i + 8) n then found_in (part m (place r i) 8) else Outside

-- looking finds it, and leaves the memory
looked : (b : Bool) (at : ℕ) (m : List ℕ)
    → run (if b then reads at 8 >>= (λ bs. done (found_in bs)) else done Outside) m
    ≡ record { answer = if b then found_in (part m at 8) else Outside; memory = m }
looked true at m = after (reads at 8) (λ bs. done (found_in bs)) m m (part m at 8) (run_reads at 8 m) ∙ run_done (found_in (part m at 8)) m
looked false at m = run_done Outside m

pub run_look : (n : ℕ) (r : Ring) (i : Slot) (m : List ℕ) → run (look n r i) m ≡ record { answer = found n r i m; memory = m }
unfolding look found
run_look n r i m = looked (leb (place r i + 8) n) (place r i) m

pub look_finds : (n : ℕ) (r : Ring) (i : Slot) (m : List ℕ) (f : Found) → run (look n r i) m ≡ record { answer = f; memory = m } → found n r i m ≡ f
look_finds n r i m f e = ap (λ (x : Ended Found). x.answer) (sym (run_look n r i m) ∙ e)

-- the three ways of looking at a slot whose descriptor stands at `at`
module _ (m : List ℕ) (r : Ring) (i : Slot) (at : ℕ) (e : at ≡ place r i) where
  pub look_outside : length m < at + 8 → run (look (length m) r i) m ≡ record { answer = Outside; memory = m }
  unfolding found
  look_outside h = run_look (length m) r i m ∙ rw (← e, lt-leb (at + 8) (length m) h)

  pub look_not_owned : at + 8 ≤ length m → get_or m (at + 3) 0 < 128 → run (look (length m) r i) m ≡ record { answer = NotOwned; memory = m }
  unfolding found found_in
  look_not_owned h l =
      run_look (length m) r i m ∙ rw (← e, le-leb (at + 8) (length m) h, byte m at 3 (lit< tt), lt-leb 128 (get_or m (at + 3) 0) l)

  pub look_owned : (d : Descriptor) → at + 8 ≤ length m → 128 ≤ get_or m (at + 3) 0 → d ≡ described (part m at 8)
      → run (look (length m) r i) m ≡ record { answer = Owned d; memory = m }
  unfolding found found_in
  look_owned d h l ed =
      run_look (length m) r i m
      ∙ rw (← e, le-leb (at + 8) (length m) h, byte m at 3 (lit< tt), le-leb 128 (get_or m (at + 3) 0) l, ed)

-- an owned descriptor is inside, and says what its bytes say
inside : (b : Bool) (at n : ℕ) (bs : List ℕ) (d : Descriptor) → leb at n ≡ b → (if b then found_in bs else Outside) ≡ Owned d → at ≤ n
inside true at n bs d t e = leb-true at n t
inside false at n bs d t e = let z : ◌≡◌ {A = ℕ} 0 1 = cc in omega arith

pub found_inside : (n : ℕ) (r : Ring) (i : Slot) (m : List ℕ) (d : Descriptor) → found n r i m ≡ Owned d → place r i + 8 ≤ n
unfolding found
found_inside n r i m d e = inside (leb (place r i + 8) n) (place r i + 8) n (part m (place r i) 8) d refl e

says : (b o : Bool) (bs : List ℕ) (d : Descriptor) → (if b then (if o then Owned (described bs) else NotOwned) else Outside) ≡ Owned d → d ≡ described bs
says true true bs d e = cc
says true false bs d e = cc
says false o bs d e = cc

pub found_is : (n : ℕ) (r : Ring) (i : Slot) (m : List ℕ) (d : Descriptor) → found n r i m ≡ Owned d → d ≡ described (part m (place r i) 8)
unfolding found found_in
found_is n r i m d e = says (leb (place r i + 8) n) (leb 128 (get_or (part m (place r i) 8) 3 0)) (part m (place r i) 8) d e

pub look_inside : (m : List ℕ) (r : Ring) (i : Slot) (f : Found) (d : Descriptor)
    → run (look (length m) r i) m ≡ record { answer = f; memory = m } → f ≡ Owned d → place r i + 8 ≤ length m
look_inside m r i f d e h = found_inside (length m) r i m d (look_finds (length m) r i m f e ∙ h)

-- what to do, where it is known which was found
module _ {A : Type 0} (a b : A) where
  pub by_outside : (f : Found) → f ≡ Outside → by f outside: a not_owned: b owned: (λ d. b) ≡ a
  unfolding by◌outside:◌not_owned:◌owned:◌
  by_outside f h = rw h

  pub by_other : (f : Found) → (f ≡ Outside → ⊥)
      → by f outside: a not_owned: b owned: (λ d. b) ≡ b
  unfolding by◌outside:◌not_owned:◌owned:◌
  by_other Outside h = absurd (h refl)
  by_other NotOwned h = refl
  by_other (Owned d) h = refl

  pub by_unowned : (g : Descriptor → A) (f : Found) → ((d : Descriptor) → f ≡ Owned d → ⊥)
      → by f outside: a not_owned: b owned: g ≡ by f outside: a not_owned: b owned: (λ d. b)
  unfolding by◌outside:◌not_owned:◌owned:◌
  by_unowned g Outside h = refl
  by_unowned g NotOwned h = refl
  by_unowned g (Owned d) h = absurd (h d refl)

-- a descriptor is what its first six bytes say
pub same_descriptor : (r : Ring) (m m' : List ℕ) (i : Slot) → ((k : ℕ) → k < 6 → get_or m (place r i + k) 0 ≡ get_or m' (place r i + k) 0)
    → descriptor r m i ≡ descriptor r m' i
unfolding descriptor described
same_descriptor r m m' i h =
    let same : (k : ℕ) → k < 6 → get_or (part m (place r i) 8) k 0 ≡ get_or (part m' (place r i) 8) k 0 =
    λ k l. byte m (place r i) k (omega arith) ∙ h k l ∙ sym (byte m' (place r i) k (omega arith)) in
    rw (same 0 (lit< tt), same 1 (lit< tt), same 2 (lit< tt), same 3 (lit< tt), same 4 (lit< tt), same 5 (lit< tt))
