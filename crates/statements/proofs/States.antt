-- A sound state taken apart and put together.
use Prim.Native.Nat.{ℕ}
use mathlib.Core.Path.{◌≡◌, refl, sym, subst, ◌∙◌}
use mathlib.Core.Bool.{Bool, true, false, not, ◌&&◌, and-eq-true_iff, false≢true}
use Rattle.std.specs.Prelude.{if◌then◌else◌}
use Rattle.bus.specs.Words.{bytes_of}
use Rattle.ring.specs.declared.Ring.{Ring}
use Rattle.ring.specs.Loading.{loaded}
use Rattle.registers.specs.declared.Csr0.{Csr0}
use Rattle.registers.specs.declared.Written.{Written}
use Rattle.registers.specs.Csr0.{csr0_of, sound_csr0}
use Rattle.registers.specs.Table.{kept, settled}
use Rattle.registers.proofs.Csr0s.{Kind, kind_of, sound_of}
use Rattle.card.specs.declared.Card.{Card}
use Rattle.card.specs.State.{state_of, fresh, with, with_csr0, with_written}
use Rattle.card.specs.Sound.{zeros, before, afterwards, fitting, sound}

-- "before a successful initialization .."; "after one, each ring .."
pub data Fitting (c : Card) : Type 0 where
  before_one : c.initialized ≡ false → before c ≡ true → Fitting c
  after_one : c.initialized ≡ true → loaded c.receive ≡ true → loaded c.transmit ≡ true → Fitting c

pub record Parts (c : Card) : Type 0 where
  pub csr0 : Kind c.csr0
  pub written : settled c.written ≡ true
  pub fits : Fitting c

fits_by : (c : Card) (b : Bool) → c.initialized ≡ b → (if b then afterwards c else before c) ≡ true → Fitting c
unfolding afterwards
fits_by c true e h = let both = (and-eq-true_iff _ _).0 h in after_one e both.0 both.1
fits_by c false e h = before_one e h

pub apart : (c : Card) → sound c ≡ true → Parts c
unfolding sound fitting
apart c e =
    let two = (and-eq-true_iff _ _).0 e in
    let one = (and-eq-true_iff _ _).0 two.0 in
    record { csr0 = kind_of c.csr0 one.0; written = one.1; fits = fits_by c c.initialized refl two.1 }

fitting_of : (c : Card) → Fitting c → fitting c ≡ true
unfolding fitting afterwards
fitting_of c (before_one e h) = subst (λ (b : Bool). (if b then afterwards c else before c) ≡ true) (sym e) h
fitting_of c (after_one e h l) =
    subst (λ (b : Bool). (if b then afterwards c else before c) ≡ true) (sym e) ((and-eq-true_iff _ _).1 (h, l))

pub together : (c : Card) → Parts c → sound c ≡ true
unfolding sound
together c p =
    (and-eq-true_iff (sound_csr0 c.csr0 && settled c.written) _).1
    ((and-eq-true_iff (sound_csr0 c.csr0) _).1 (sound_of c.csr0 p.csr0, p.written), fitting_of c p.fits)

-- the state after reset is sound
pub fresh_sound : sound fresh ≡ true
unfolding sound fresh state_of csr0_of sound_csr0 settled kept fitting before zeros bytes_of
fresh_sound = refl

-- "before a successful initialization STRT is clear"
clear : (a p q r t u : Bool) → (not a && p && q && r && t && u) ≡ true → a ≡ false
clear true p q r t u h = absurd (false≢true h)
clear false p q r t u h = refl

pub before_strt : (c : Card) → Parts c → c.initialized ≡ false → c.csr0.strt ≡ false
unfolding before
before_strt c p e = go p.fits
  where
    go : Fitting c → c.csr0.strt ≡ false
    go (before_one _ h) = clear c.csr0.strt _ _ _ _ _ h
    go (after_one d h l) = absurd (false≢true (sym e ∙ d))

-- .. so after a start both rings are loaded
pub record Ready (c : Card) : Type 0 where
  pub initialized : c.initialized ≡ true
  pub receive : loaded c.receive ≡ true
  pub transmit : loaded c.transmit ≡ true

pub ready : (c : Card) → Parts c → c.csr0.strt ≡ true → Ready c
unfolding before
ready c p e = go p.fits
  where
    go : Fitting c → Ready c
    go (before_one d h) = absurd (false≢true (sym (before_strt c p d) ∙ e))
    go (after_one d h l) = record { initialized = d; receive = h; transmit = l }

-- with other written registers
pub with_written_lem : (c : Card) (w : Written) → settled w ≡ true → Parts c → Parts (with_written c w)
unfolding with before
with_written_lem c w h p = record { csr0 = p.csr0; written = h; fits = go p.fits }
  where
    go : Fitting c → Fitting (with_written c w)
    go (before_one e j) = before_one e j
    go (after_one e j k) = after_one e j k

-- with another CSR0
started_not : (a b p q r t u : Bool) → b ≡ false → (not a && p && q && r && t && u) ≡ true → (not b && p && q && r && t && u) ≡ true
started_not true b p q r t u e h = absurd (false≢true h)
started_not false b p q r t u e h = rw e h

pub with_csr0_lem : (c : Card) (s : Csr0) → Kind s → (c.initialized ≡ false → s.strt ≡ false) → Parts c → Parts (with_csr0 c s)
unfolding with before
with_csr0_lem c s k l p = record { csr0 = k; written = p.written; fits = go p.fits }
  where
    go : Fitting c → Fitting (with_csr0 c s)
    go (before_one e h) = before_one e (started_not c.csr0.strt s.strt _ _ _ _ _ (l e) h)
    go (after_one e h j) = after_one e h j

-- with what an event changes
pub with_event : (c : Card) (s : Csr0) (missed : ℕ) (rx tx : Ring) → Parts c → Ready c → Kind s → loaded rx ≡ true → loaded tx ≡ true
    → Parts (with c s c.written missed rx tx)
unfolding with
with_event c s missed rx tx p r k h l = record { csr0 = k; written = p.written; fits = after_one r.initialized h l }
