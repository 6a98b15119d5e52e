-- CSR0 in a sound state is of one of three kinds, and each change of it keeps it so.
use mathlib.Core.Path.{◌≡◌, refl, sym, ap, subst, ◌∙◌}
use mathlib.Core.Bool.{Bool, true, false, not, ◌&&◌, ◌||◌, and-eq-true_iff, and-false, or-true, false≢true}
use Prim.Native.Nat.{ℕ, ◌+◌, ◌*◌, ◌/◌, ◌%◌}
use native.Mathlib.Omega.{arith}
use borrow.Author.Tests.{ne_eqb, not-true}
use Rattle.std.proofs.lemmas.Bool.{or_parts}
use Rattle.bus.specs.Bits.{bit, weigh}
use Rattle.registers.specs.declared.Csr0.{Csr0}
use Rattle.registers.specs.Bits.{MERR, IDON, IENA, RXON, TXON, TDMD, STOP, STRT, INIT, DRX, DTX}
use Rattle.registers.specs.Csr0.{stopped, changed, others, sound_csr0}
use Rattle.registers.specs.Writing.{cleared, started, enabled, demanded, finished}
use Rattle.bus.proofs.Within.{so_if}

-- stopped, with nothing else set; initialized or tried to, and not started; started
pub data Kind (s : Csr0) : Type 0 where
  still : s ≡ stopped → Kind s
  waiting : s.stop ≡ false → s.strt ≡ false → s.init ≡ true → s.rxon ≡ false → s.txon ≡ false → s.tdmd ≡ false → Kind s
  running : s.stop ≡ false → s.strt ≡ true → Kind s

-- a state in which nothing but STOP is set
alone : (s : Csr0) → s.stop ≡ true → others s ≡ false → s ≡ stopped
alone s t h =
    let init = or_parts _ _ h in
    let strt = or_parts _ _ init.0 in
    let tdmd = or_parts _ _ strt.0 in
    let txon = or_parts _ _ tdmd.0 in
    let rxon = or_parts _ _ txon.0 in
    let iena = or_parts _ _ rxon.0 in
    let idon = or_parts _ _ iena.0 in
    let tint = or_parts _ _ idon.0 in
    let rint = or_parts _ _ tint.0 in
    let merr = or_parts _ _ rint.0 in
    let miss = or_parts _ _ merr.0 in
    let cerr = or_parts _ _ miss.0 in
    λ i. record {
      babl = cerr.0 i;
      cerr = cerr.1 i;
      miss = miss.1 i;
      merr = merr.1 i;
      rint = rint.1 i;
      tint = tint.1 i;
      idon = idon.1 i;
      iena = iena.1 i;
      rxon = rxon.1 i;
      txon = txon.1 i;
      tdmd = tdmd.1 i;
      stop = t i;
      strt = strt.1 i;
      init = init.1 i;
    }

-- a sound CSR0 is of one of these kinds, and the other way round
kinds : (s : Csr0) (stop strt : Bool) → s.stop ≡ stop → s.strt ≡ strt → not (stop && others s) ≡ true → (stop || strt || s.init) ≡ true
    → (strt || not (s.rxon || s.txon || s.tdmd)) ≡ true → Kind s
kinds s true strt p q a b c = still (alone s p (not-true _ a))
kinds s false true p q a b c = running p q
kinds s false false p q a b c =
    let tdmd = or_parts _ _ (not-true _ c) in
    let txon = or_parts _ _ tdmd.0 in
    waiting p q b txon.0 txon.1 tdmd.1

pub kind_of : (s : Csr0) → sound_csr0 s ≡ true → Kind s
unfolding sound_csr0
kind_of s h =
    let all = (and-eq-true_iff _ _).0 h in
    let both = (and-eq-true_iff _ _).0 all.0 in
    kinds s s.stop s.strt refl refl both.0 both.1 all.1

pub sound_of : (s : Csr0) → Kind s → sound_csr0 s ≡ true
unfolding sound_csr0
sound_of s (still e) = ap sound_csr0 e
sound_of s (waiting stop strt init rxon txon tdmd) = rw (stop, strt, init, rxon, txon, tdmd)
sound_of s (running stop strt) = rw (stop, strt)

-- with STOP set nothing else is; with RXON or TXON set the card has started
pub stop_still : (s : Csr0) → Kind s → s.stop ≡ true → s ≡ stopped
stop_still s (still e) h = e
stop_still s (waiting stop strt init rxon txon tdmd) h = absurd (false≢true (sym stop ∙ h))
stop_still s (running stop strt) h = absurd (false≢true (sym stop ∙ h))

pub on_running : (s : Csr0) → Kind s → (s.rxon || s.txon) ≡ true → (s.stop ≡ false) × (s.strt ≡ true)
on_running s (still e) h = absurd (false≢true (sym (ap (λ (x : Csr0). x.rxon || x.txon) e) ∙ h))
on_running s (waiting stop strt init rxon txon tdmd) h = absurd (false≢true (rw (rxon, txon) at h))
on_running s (running stop strt) h = (stop, strt)

-- what a change must leave alone, by the kind
still_stays : (off : ℕ) → bit off STOP ≡ false → changed stopped 0 off ≡ stopped
unfolding changed
still_stays off e = rw e

module _ (s : Csr0) (on off : ℕ) where
  waiting_stays : bit on STOP ≡ false → bit on STRT ≡ false → bit on RXON ≡ false → bit on TXON ≡ false → bit on TDMD ≡ false → bit off INIT ≡ false
      → s.stop ≡ false → s.strt ≡ false → s.init ≡ true → s.rxon ≡ false → s.txon ≡ false → s.tdmd ≡ false → Kind (changed s on off)
  unfolding changed
  waiting_stays a b c d e f stop strt init rxon txon tdmd =
      waiting (rw (stop, a)) (rw (strt, b)) (rw (init, f)) (rw (rxon, c)) (rw (txon, d)) (rw (tdmd, e))

  pub running_stays : bit on STOP ≡ false → bit off STRT ≡ false → s.stop ≡ false → s.strt ≡ true → Kind (changed s on off)
  unfolding changed
  running_stays a b stop strt = running (rw (stop, a)) (rw (strt, b))

-- "a 1 in bits 14 to 8 clears that bit", and none below
abbrev ones : ℕ → ℕ
ones v = v % 0x8000 / 0x100 * 0x100

spared : (v w : ℕ) → ones v / w % 2 ≡ 0 → bit (ones v) w ≡ false
spared v w e = ne_eqb (ones v / w % 2) 1 (omega arith)

pub cleared_kind : (s : Csr0) (v : ℕ) → Kind s → Kind (cleared s v)
unfolding cleared
cleared_kind s v (still e) = still (ap (λ (x : Csr0). cleared x v) e ∙ still_stays (ones v) (spared v STOP (omega arith)))
cleared_kind s v (waiting stop strt init rxon txon tdmd) =
    waiting_stays s 0 (ones v) refl refl refl refl refl (spared v INIT (omega arith)) stop strt init rxon txon tdmd
cleared_kind s v (running stop strt) = running_stays s 0 (ones v) refl (spared v STRT (omega arith)) stop strt

pub cleared_strt : (s : Csr0) (v : ℕ) → s.strt ≡ false → (cleared s v).strt ≡ false
unfolding cleared changed
cleared_strt s v e = rw e

-- "STRT .. clears STOP and sets STRT"
starts : (s : Csr0) (drx dtx : Bool) → Kind (changed s (STRT + weigh drx RXON + weigh dtx TXON) STOP)
unfolding changed weigh
starts s false false = running (rw (and-false s.stop)) (or-true (s.strt && true))
starts s false true = running (rw (and-false s.stop)) (or-true (s.strt && true))
starts s true false = running (rw (and-false s.stop)) (or-true (s.strt && true))
starts s true true = running (rw (and-false s.stop)) (or-true (s.strt && true))

started_kind : (s : Csr0) (mode : ℕ) (ready : Bool) (v : ℕ) → Kind s → Kind (started s mode ready v)
unfolding started
started_kind s mode ready v k = so_if Kind (bit v STRT && not s.strt && ready) _ s (starts s (not (bit mode DRX)) (not (bit mode DTX))) k

-- "IENA becomes bit 6, or 0 if STOP is still set"
enables : (s : Csr0) (b : Bool) → s.stop ≡ false → Kind s → Kind (changed s (weigh b IENA) IENA)
unfolding weigh
enables s b h (still e) = let z : ◌≡◌ {A = Bool} false true = sym h ∙ ap (λ (x : Csr0). x.stop) e in absurd (false≢true z)
enables s true h (waiting stop strt init rxon txon tdmd) = waiting_stays s IENA IENA refl refl refl refl refl refl stop strt init rxon txon tdmd
enables s false h (waiting stop strt init rxon txon tdmd) = waiting_stays s 0 IENA refl refl refl refl refl refl stop strt init rxon txon tdmd
enables s true h (running stop strt) = running_stays s IENA IENA refl refl stop strt
enables s false h (running stop strt) = running_stays s 0 IENA refl refl stop strt

enabled_kind : (s : Csr0) (v : ℕ) → Kind s → Kind (enabled s v)
unfolding enabled weigh
enabled_kind s v (still e) =
    still (ap (λ (x : Csr0). enabled x v) e ∙ ap (λ (x : Bool). changed stopped (weigh x IENA) IENA) (and-false (bit v IENA)) ∙ still_stays IENA refl)
enabled_kind s v (waiting stop strt init rxon txon tdmd) = enables s (bit v IENA && not s.stop) stop (waiting stop strt init rxon txon tdmd)
enabled_kind s v (running stop strt) = enables s (bit v IENA && not s.stop) stop (running stop strt)

-- "TDMD is set if written and TXON is set"
demands : (s : Csr0) (b : Bool) → s.stop ≡ false → s.strt ≡ true → Kind (changed s (weigh b TDMD) 0)
unfolding weigh
demands s true stop strt = running_stays s TDMD 0 refl refl stop strt
demands s false stop strt = running_stays s 0 0 refl refl stop strt

demanded_kind : (s : Csr0) (v : ℕ) → Kind s → Kind (demanded s v)
unfolding demanded weigh
demanded_kind s v (still e) =
    still (ap (λ (x : Csr0). demanded x v) e ∙ ap (λ (x : Bool). changed stopped (weigh x TDMD) 0) (and-false (bit v TDMD)) ∙ still_stays 0 refl)
demanded_kind s v (waiting stop strt init rxon txon tdmd) =
    subst (λ (x : Bool). Kind (changed s (weigh x TDMD) 0)) (sym (ap (λ (x : Bool). bit v TDMD && x) txon ∙ and-false (bit v TDMD)))
    (waiting_stays s 0 0 refl refl refl refl refl refl stop strt init rxon txon tdmd)
demanded_kind s v (running stop strt) = demands s (bit v TDMD && s.txon) stop strt

pub finished_kind : (s : Csr0) (mode : ℕ) (ready : Bool) (v : ℕ) → Kind s → Kind (finished s mode ready v)
unfolding finished
finished_kind s mode ready v k = demanded_kind _ v (enabled_kind _ v (started_kind s mode ready v k))

-- a card that isn't ready does not start
unstarted : (s : Csr0) (enable demand : Bool) → s.strt ≡ false
    → (changed (changed s (weigh enable IENA) IENA) (weigh demand TDMD) 0).strt ≡ false
unfolding changed weigh
unstarted s false false e = rw e
unstarted s false true e = rw e
unstarted s true false e = rw e
unstarted s true true e = rw e

pub not_started : (s : Csr0) (mode v : ℕ) → s.strt ≡ false → (finished s mode false v).strt ≡ false
unfolding finished started enabled demanded
not_started s mode v e = rw (and-false (bit v STRT && not s.strt)) (unstarted s _ _ e)

-- "INIT clears STOP": what an initialization makes of a stopped card, whether it succeeds or fails
pub succeeded_kind : Kind (changed stopped (IDON + INIT) STOP)
unfolding changed
succeeded_kind = waiting refl refl refl refl refl refl

pub failed_kind : Kind (changed stopped (INIT + MERR) (STOP + RXON + TXON))
unfolding changed
failed_kind = waiting refl refl refl refl refl refl
