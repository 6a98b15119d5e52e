-- The ways of reading a chain.
use mathlib.Core.Path.{◌≡◌, refl, sym, ap, subst, ◌∙◌}
use mathlib.Core.List.{List}
use mathlib.Core.Bool.{Bool, true, false}
use Prim.Native.Nat.{ℕ, zero, suc, ◌+◌, ◌-◌, ◌/◌, ◌≤◌}
use native.Mathlib.Nat.{zero-add, suc-add}
use native.Mathlib.Omega.{arith}
use lib.ListN.{length}
use lib.Dec.{ltb}
use borrow.Author.Tests.{ltb-false}
use Rattle.std.specs.Prelude.{if◌then◌else◌}
use Rattle.std.specs.ControlFlow.{MatchControlFlow}
use Rattle.std.specs.declared.ops.ControlFlow.TheVariants.{Continue, Break}
use Rattle.bus.specs.Bits.{bit}
use Rattle.bus.specs.Words.{part}
use Rattle.bus.specs.Bus.{run, Ended, done, ◌>>=◌}
use Rattle.bus.proofs.Run.{run_done, run_then, after}
use Rattle.ring.specs.declared.Slot.{Slot}
use Rattle.ring.specs.declared.Ring.{Ring}
use Rattle.ring.specs.declared.Descriptor.{Descriptor}
use Rattle.ring.specs.declared.Found.{Found}
use Rattle.ring.specs.declared.Found.TheVariants.{Outside, NotOwned, Owned}
use Rattle.ring.specs.Slots.{slots, place}
use Rattle.ring.specs.Descriptor.{look, described, by◌outside:◌not_owned:◌owned:◌}
use Rattle.ring.proofs.Finding.{found, run_look, look_finds, found_is}
use Rattle.chain.specs.declared.Reach.{Reach}
use Rattle.chain.specs.declared.Close.{Close}
use Rattle.chain.specs.declared.Close.TheVariants.{Whole, Memory, Short, Long}
use Rattle.chain.specs.declared.Closed.{Closed}
use Rattle.chain.specs.Inner.Bounds.{Counted, Within}
use Rattle.chain.specs.Chain.{Chain, over, further, grow, closed, link, links, read_chain}

-- a descriptor that is found has a byte count of 1 to 4,096
pub found_counted : (n : ℕ) (ring : Ring) (i : Slot) (m : List ℕ) (d : Descriptor) → found n ring i m ≡ Owned d → Counted d
unfolding described
found_counted n ring i m d e =
    let c : d.count ≡ (described (part m (place ring i) 8)).count = ap (λ (x : Descriptor). x.count) (found_is n ring i m d e) in
    record { some = omega arith; most = omega arith }

-- what is so of each way that a chain can grow is so of the chain that grew
module _ (n : ℕ) (ring : Ring) (d : Descriptor) (r : Reach) (P : Chain → Type 0) (memory : P (over Memory r))
    (long : d.address + d.count ≤ n → P (over Long (further ring d r)))
    (whole : d.address + d.count ≤ n → r.total + d.count ≤ 4096 → P (over Whole (further ring d r)))
    (further-on : d.address + d.count ≤ n → r.total + d.count ≤ 4096 → P (Continue (further ring d r))) where
  ways : (o l e : Bool) → (o ≡ false → d.address + d.count ≤ n) → (l ≡ false → r.total + d.count ≤ 4096)
      → P (if o then over Memory r else if l then over Long (further ring d r) else if e then over Whole (further ring d r) else Continue (further ring d r))
  ways true l e i t = memory
  ways false true e i t = long (i refl)
  ways false false true i t = whole (i refl) (t refl)
  ways false false false i t = further-on (i refl) (t refl)

  pub grown : P (grow n ring d r)
  unfolding grow
  grown =
      ways (ltb n (d.address + d.count)) (ltb 4096 (r.total + d.count)) (bit d.status 1)
      (ltb-false n (d.address + d.count)) (ltb-false 4096 (r.total + d.count))

-- a chain that goes on is within bounds
abbrev Small : Chain → Type 0
Small c = MatchControlFlow c Within (λ e. Unit {0})

-- .. as it grows
grow_small : (n : ℕ) (ring : Ring) (d : Descriptor) (r : Reach) → Counted d → Within r → Small (grow n ring d r)
unfolding further
grow_small n ring d r q s = grown n ring d r Small tt (λ i. tt) (λ i t. tt) (λ i t. record { few = omega arith; most = t })

pub grow_bounds : (n : ℕ) (ring : Ring) (d : Descriptor) (r first : Reach) → Counted d → Within r → Continue first ≡ grow n ring d r → Within first
grow_bounds n ring d r first q s e = subst Small (sym e) (grow_small n ring d r q s)

-- in the memory m
module _ (n : ℕ) (ring : Ring) (m : List ℕ) where
  -- what a chain is after one slot more, and after k
  unfoldable pub linked : Chain → Chain
  linked (Continue r) = by found n ring r.slot m outside: (over Memory r) not_owned: (over Short r) owned: (λ d. grow n ring d r)
  linked (Break e) = Break e

  unfoldable pub linkeds : ℕ → Chain → Chain
  linkeds zero c = c
  linkeds (suc k) c = linkeds k (linked c)

  opened : (r : Reach) (f : Found)
      → run (by f outside: (done (over Memory r)) not_owned: (done (over Short r)) owned: (λ d. done (grow n ring d r))) m
      ≡ record { answer = by f outside: (over Memory r) not_owned: (over Short r) owned: (λ d. grow n ring d r); memory = m }
  unfolding by◌outside:◌not_owned:◌owned:◌
  opened r Outside = run_done (over Memory r) m
  opened r NotOwned = run_done (over Short r) m
  opened r (Owned d) = run_done (grow n ring d r) m

  run_link : (c : Chain) → run (link n ring c) m ≡ record { answer = linked c; memory = m }
  unfolding link linked
  run_link (Continue r) =
      after (look n ring r.slot)
      (λ f. by f outside: (done (over Memory r)) not_owned: (done (over Short r)) owned: (λ d. done (grow n ring d r)))
      m m (found n ring r.slot m) (run_look n ring r.slot m)
      ∙ opened r (found n ring r.slot m)
  run_link (Break e) = run_done (Break e) m

  run_links : (k : ℕ) (c : Chain) → run (links n ring k c) m ≡ record { answer = linkeds k c; memory = m }
  unfolding links linkeds
  run_links zero c = run_done c m
  run_links (suc k) c = after (link n ring c) (links n ring k) m m (linked c) (run_link c) ∙ run_links k (linked c)

  -- what growing keeps, reading keeps
  module _ (P : Chain → Type 0)
      (ends : (e : Close) (r : Reach) → P (Continue r) → P (over e r))
      (grows : (r : Reach) (d : Descriptor) → found n ring r.slot m ≡ Owned d → P (Continue r) → P (grow n ring d r)) where
    by_found : (r : Reach) (f : Found) → found n ring r.slot m ≡ f → P (Continue r)
        → P (by f outside: (over Memory r) not_owned: (over Short r) owned: (λ d. grow n ring d r))
    unfolding by◌outside:◌not_owned:◌owned:◌
    by_found r Outside e p = ends Memory r p
    by_found r NotOwned e p = ends Short r p
    by_found r (Owned d) e p = grows r d e p

    keeps : (c : Chain) → P c → P (linked c)
    unfolding linked
    keeps (Continue r) p = by_found r (found n ring r.slot m) refl p
    keeps (Break e) p = p

    pub kept : (k : ℕ) (c : Chain) → P c → P (linkeds k c)
    unfolding linkeds
    kept zero c p = p
    kept (suc k) c p = kept k (linked c) (keeps c p)

-- the ways of one slot more
module _ (ring : Ring) (m : List ℕ) (r : Reach) (f : Found) (e : run (look (length m) ring r.slot) m ≡ record { answer = f; memory = m }) (g : Chain) where
  -- what is found says how the chain goes on
  seen : (h : Found) → f ≡ h → g ≡ by h outside: (over Memory r) not_owned: (over Short r) owned: (λ d. grow (length m) ring d r)
      → run (link (length m) ring (Continue r)) m ≡ record { answer = g; memory = m }
  unfolding linked
  seen h ef eg = rw (eg, ← ef, ← look_finds (length m) ring r.slot m f e) (run_link (length m) ring m (Continue r))

  pub link_outside : f ≡ Outside → g ≡ over Memory r → run (link (length m) ring (Continue r)) m ≡ record { answer = g; memory = m }
  unfolding by◌outside:◌not_owned:◌owned:◌
  link_outside ef eg = seen Outside ef eg

  pub link_not_owned : f ≡ NotOwned → g ≡ over Short r → run (link (length m) ring (Continue r)) m ≡ record { answer = g; memory = m }
  unfolding by◌outside:◌not_owned:◌owned:◌
  link_not_owned ef eg = seen NotOwned ef eg

  module _ (d : Descriptor) (ef : f ≡ Owned d) where
    pub link_owned : g ≡ grow (length m) ring d r → run (link (length m) ring (Continue r)) m ≡ record { answer = g; memory = m }
    unfolding by◌outside:◌not_owned:◌owned:◌
    link_owned eg = seen (Owned d) ef eg

-- a descriptor that a look finds
pub look_counted : (ring : Ring) (m : List ℕ) (i : Slot) (f : Found) (d : Descriptor) → run (look (length m) ring i) m ≡ record { answer = f; memory = m }
    → f ≡ Owned d → Counted d
look_counted ring m i f d e ef = found_counted (length m) ring i m d (look_finds (length m) ring i m f e ∙ ef)

-- the ways of k slots more
module _ (n : ℕ) (ring : Ring) (k : ℕ) (m : List ℕ) (c : Chain) where
  pub links_none : k ≡ 0 → run (links n ring k c) m ≡ record { answer = c; memory = m }
  unfolding links
  links_none h = rw h (run_done c m)

  pub links_one : (g : Chain) → k ≡ 1 → run (link n ring c) m ≡ record { answer = g; memory = m } → run (links n ring k c) m ≡ record { answer = g; memory = m }
  unfolding links
  links_one g h e = rw h (after (link n ring c) (links n ring 0) m m g e ∙ run_done g m)

-- a chain that is over stays as it is
over_stays : (n : ℕ) (ring : Ring) (k : ℕ) (m : List ℕ) (e : Closed) → run (links n ring k (Break e)) m ≡ record { answer = Break e; memory = m }
unfolding links link ◌>>=◌
over_stays n ring zero m e = run_done (Break e) m
over_stays n ring (suc k) m e = over_stays n ring k m e

pub links_over : (n : ℕ) (ring : Ring) (k : ℕ) (m : List ℕ) (c g : Chain) (e : Closed) → Break e ≡ c → g ≡ Break e
    → run (links n ring k c) m ≡ record { answer = g; memory = m }
links_over n ring k m c g e ec eg = rw (← ec, eg) (over_stays n ring k m e)

-- k slots in two parts
links_add : (n : ℕ) (ring : Ring) (a b : ℕ) (m : List ℕ) (c : Chain)
    → run (links n ring (a + b) c) m ≡ run (links n ring b (run (links n ring a c) m).answer) (run (links n ring a c) m).memory
unfolding links run
links_add n ring zero b m c = ap (λ (k : ℕ). run (links n ring k c) m) (zero-add b)
links_add n ring (suc a) b m c =
    ap (λ (k : ℕ). run (links n ring k c) m) (suc-add a b)
    ∙ run_then (link n ring c) (links n ring (a + b)) m
    ∙ links_add n ring a b (run (link n ring c) m).memory (run (link n ring c) m).answer
    ∙ sym
    (ap (λ (x : Ended Chain). run (links n ring b x.answer) x.memory) (run_then (link n ring c) (links n ring a) m))

module _ (n : ℕ) (ring : Ring) (k : ℕ) (m : List ℕ) (c first : Chain) (e : run (links n ring (k / 2) c) m ≡ record { answer = first; memory = m }) where
  pub links_both : (g : Chain) → run (links n ring (k - k / 2) first) m ≡ record { answer = g; memory = m }
      → run (links n ring k c) m ≡ record { answer = g; memory = m }
  links_both g f =
      let sum : k ≡ k / 2 + (k - k / 2) = omega arith in
      ap (λ (j : ℕ). run (links n ring j c) m) sum
      ∙ links_add n ring (k / 2) (k - k / 2) m c
      ∙ ap (λ (x : Ended Chain). run (links n ring (k - k / 2) x.answer) x.memory) e ∙ f

  pub links_ended : (g : Chain) (x : Closed) → first ≡ Break x → g ≡ Break x → run (links n ring k c) m ≡ record { answer = g; memory = m }
  links_ended g x h eg = links_both g (links_over n ring (k - k / 2) m first g x (sym h) eg)

-- reading keeps a chain within bounds
pub links_bounds : (n : ℕ) (ring : Ring) (k : ℕ) (r first : Reach) (m : List ℕ) → Within r
    → run (links n ring k (Continue r)) m ≡ record { answer = Continue first; memory = m } → Within first
links_bounds n ring k r first m s e =
    let a : linkeds n ring m k (Continue r) ≡ Continue first = ap (λ (x : Ended Chain). x.answer) (sym (run_links n ring m k (Continue r)) ∙ e) in
    subst Small a (kept n ring m Small (λ e r s. tt) (λ r d f s. grow_small n ring d r (found_counted n ring r.slot m d f) s) k (Continue r) s)

-- the ways that a chain ends
module _ (n : ℕ) (ring : Ring) (m : List ℕ) (i : Slot) (d : Descriptor) (last : Chain)
    (l : run (links n ring (slots ring - 1) (grow n ring d (record { slot = i; slots = 0; total = 0 }))) m ≡ record { answer = last; memory = m }) where
  ended : run (read_chain n ring i d) m ≡ record { answer = closed last; memory = m }
  unfolding read_chain
  ended = after (links n ring (slots ring - 1) _) (λ c. done (closed c)) m m last l ∙ run_done (closed last) m

  pub chain_open : (r : Reach) → last ≡ Continue r → run (read_chain n ring i d) m ≡ record { answer = record { close = Short; reach = r }; memory = m }
  unfolding closed
  chain_open r h = rw h at ended

  pub chain_over : (e : Closed) → last ≡ Break e → run (read_chain n ring i d) m ≡ record { answer = e; memory = m }
  unfolding closed
  chain_over e h = rw h at ended

-- .. and what a chain is when it was read
pub run_chain : (n : ℕ) (ring : Ring) (m : List ℕ) (i : Slot) (d : Descriptor)
    → run (read_chain n ring i d) m
    ≡ record { answer = closed (linkeds n ring m (slots ring - 1) (grow n ring d (record { slot = i; slots = 0; total = 0 }))); memory = m }
run_chain n ring m i d = ended n ring m i d _ (run_links n ring m (slots ring - 1) _)
