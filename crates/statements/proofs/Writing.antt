-- A register write loads only the initialization block, stores nothing, and keeps the state sound.
use Prim.Native.Nat.{ℕ, suc, ◌+◌, ◌*◌, ◌≤◌, ◌<◌}
use native.Mathlib.Omega.{arith}
use mathlib.Core.Path.{◌≡◌, refl, sym, ap, subst}
use mathlib.Core.Bool.{Bool, true, false, ◌&&◌, and-eq-true_iff}
use mathlib.Core.List.{List}
use lib.ListN.{get_or}
use Rattle.bus.specs.Bits.{bit}
use Rattle.bus.specs.Words.{words_at}
use Rattle.bus.specs.Bus.{Bus, words, done}
use Rattle.bus.specs.Within.{Within}
use Rattle.bus.proofs.Bytes.{get_d_words}
use Rattle.std.proofs.lemmas.Bool.{cond_both}
use Rattle.bus.proofs.Within.{so_if, within_done, within_then, within_words}
use Rattle.ring.proofs.Loaded.{words_loaded}
use Rattle.registers.specs.declared.Csr0.{Csr0}
use Rattle.registers.specs.Bits.{MERR, IDON, RXON, TXON, STOP, INIT}
use Rattle.registers.specs.Csr0.{stopped, changed}
use Rattle.registers.specs.Writing.{cleared, finished}
use Rattle.registers.proofs.Csr0s.{Kind, still, stop_still, cleared_kind, cleared_strt, finished_kind, not_started, succeeded_kind, failed_kind}
use Rattle.registers.proofs.Tables.{keep_settled}
use Rattle.card.specs.declared.Card.{Card}
use Rattle.card.specs.declared.Tried.{Tried}
use Rattle.card.specs.State.{state_of, with, with_csr0}
use Rattle.card.specs.Initialization.{block_address, loaded_from, succeeded, failed, tried, initialization, init_if_asked, write_csr0}
use Rattle.card.specs.Acts.{write_register, write_at}
use Rattle.statements.specs.Soundly.{Bytes}
use Rattle.statements.proofs.States.{after_one, Parts, before_strt, with_written_lem, with_csr0_lem}

-- a byte of the initialization block
pub record InBlock (c : Card) (m : List ℕ) (a : ℕ) : Type 0 where
  pub from : block_address c ≤ a
  pub to : a < block_address c + 24

-- nothing is stored
abbrev pub Nothing : List ℕ → ℕ → ℕ → Type 0
Nothing m a b = ⊥

-- words that memory has are below 65,536
abbrev Words : List ℕ → Type 0
Words ws = (i : ℕ) → i < 12 → get_or ws i 0 < 65536

words_small : (m : List ℕ) (at : ℕ) → Bytes m → Words (words_at m at 12)
words_small m at b i h = subst (λ (w : ℕ). w < 65536) (sym (get_d_words 12 i at m h)) (omega (arith, b (at + 2 * i), b (suc (at + 2 * i))))

-- a card that may start only if an initialization has succeeded
record Fine (c : Card) (ready : Bool) : Type 0 where
  card : Parts c
  unready : c.initialized ≡ false → ready ≡ false

-- "Success loads these"; "nothing is loaded"
module _ (c : Card) (p : Parts c) (e : c.csr0 ≡ stopped) where
  succeeded_fine : (ws : List ℕ) → Words ws → Fine (succeeded c ws) true
  unfolding succeeded with loaded_from state_of
  succeeded_fine ws h =
      record {
        card =
            record {
              csr0 = subst (λ (s : Csr0). Kind (changed s (IDON + INIT) STOP)) (sym e) succeeded_kind;
              written = p.written;
              fits = after_one refl (words_loaded _ _ (h 8 (omega arith)) (h 9 (omega arith))) (words_loaded _ _ (h 10 (omega arith)) (h 11 (omega arith)));
            };
        unready = λ d. d;
      }

  failed_fine : Fine (failed c) false
  unfolding failed with changed
  failed_fine =
      record {
        card =
            with_csr0_lem c _ (subst (λ (s : Csr0). Kind (changed s (INIT + MERR) (STOP + RXON + TXON))) (sym e) failed_kind)
            (λ d. ap (λ (s : Csr0). (changed s (INIT + MERR) (STOP + RXON + TXON)).strt) e) p;
        unready = λ d. refl;
      }

-- a card c whose block is that of d: as it is before bits are cleared
module _ (d : Card) (m₀ : List ℕ) where
  abbrev Ok : {A : Type 0} → (A → Type 0) → Bus A → List ℕ → Type 0
  Ok E p m = Within (InBlock d) Nothing (λ m a. Bytes m₀ → E a) p m

  init_within : (c : Card) (n : ℕ) → block_address c ≡ block_address d → (Parts c → c.csr0 ≡ stopped)
      → Ok (λ (t : Tried). Parts c → Fine t.card t.ready) (initialization c n) m₀
  unfolding initialization tried
  init_within c n e s =
      so_if (λ (p : Bus Tried). Ok (λ (t : Tried). Parts c → Fine t.card t.ready) p m₀) _ _ _
      (within_then (InBlock d) Nothing (λ m ws. Bytes m₀ → Words ws) (λ m (t : Tried). Bytes m₀ → Parts c → Fine t.card t.ready) (words (block_address c) 12) _ m₀
      (within_words (InBlock d) Nothing _ 12 (block_address c) m₀
      (λ i l. record { from = subst (λ (a : ℕ). a ≤ block_address c + i) e (omega arith); to = subst (λ (a : ℕ). block_address c + i < a + 24) e (omega arith) })
      (words_small m₀ (block_address c)))
      (λ ws m r w. within_done (InBlock d) Nothing (λ m (t : Tried). Bytes m₀ → Parts c → Fine t.card t.ready) _ m (λ b p. succeeded_fine c p (s p) ws (w b))))
      (within_done (InBlock d) Nothing (λ m (t : Tried). Bytes m₀ → Parts c → Fine t.card t.ready) _ m₀ (λ b p. failed_fine c p (s p)))

  asked_within : (c : Card) (n v : ℕ) → block_address c ≡ block_address d → Ok (λ (t : Tried). Parts c → Fine t.card t.ready) (init_if_asked c n v) m₀
  unfolding init_if_asked tried
  asked_within c n v e =
      cond_both (bit v INIT && c.csr0.stop) _ _ (λ (p : Bus Tried). Ok (λ (t : Tried). Parts c → Fine t.card t.ready) p m₀)
      (λ h. init_within c n e (λ p. stop_still c.csr0 p.csr0 ((and-eq-true_iff (bit v INIT) _).0 h).1))
      (λ h. within_done (InBlock d) Nothing (λ m (t : Tried). Bytes m₀ → Parts c → Fine t.card t.ready) _ m₀ (λ b p. record { card = p; unready = λ d. d }))

-- "STRT ..; IENA ..; TDMD"
finished_sound : (v : ℕ) (c : Card) (ready : Bool) → Fine c ready → Parts (with_csr0 c (finished c.csr0 c.mode ready v))
finished_sound v c ready f =
    with_csr0_lem c _ (finished_kind _ _ _ v f.card.csr0)
    (λ d.
    subst (λ (r : Bool). (finished c.csr0 c.mode r v).strt ≡ false) (sym (f.unready d))
    (not_started c.csr0 c.mode v (before_strt c f.card d)))
    f.card

module _ (c : Card) (n v : ℕ) (m : List ℕ) where
  abbrev Goes : Bus Card → Type 0
  Goes p = Ok c m (λ d. Parts c → Parts d) p m

  ends : (m' : List ℕ) (d : Card) → (Bytes m → Parts c → Parts d) → Ok c m (λ d. Parts c → Parts d) (done d) m'
  ends m' d h = within_done (InBlock c) Nothing (λ m' d. Bytes m → Parts c → Parts d) d m' h

  csr0_within : Goes (write_csr0 c n v)
  unfolding write_csr0 with block_address
  csr0_within =
      so_if Goes _ _ _ (ends m _ (λ b p. with_csr0_lem c stopped (still refl) (λ d. refl) p))
      (within_then (InBlock c) Nothing _ (λ m' d. Bytes m → Parts c → Parts d) _ _ m (asked_within c m (with_csr0 c (cleared c.csr0 v)) n v refl)
      (λ t m' e f. ends m' _ (λ b p.
      finished_sound v t.card t.ready
      (f b (with_csr0_lem c _ (cleared_kind c.csr0 v p.csr0) (λ d. cleared_strt c.csr0 v (before_strt c p d)) p)))))

  pub write_within : (offset : ℕ) → Goes (write_at c n offset v)
  unfolding write_at write_register
  write_within offset =
      so_if Goes _ _ _
      (so_if Goes _ _ _ csr0_within (ends m _ (λ b p. with_written_lem c _ (keep_settled c.written _ v p.written) p)))
      (so_if Goes _ _ _ (ends m _ (λ b p. with_written_lem c _ (keep_settled c.written _ v p.written) p)) (ends m _ (λ b p. p)))
