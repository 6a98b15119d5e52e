-- The ways of a write to CSR0.
use mathlib.Core.Path.{◌≡◌, ap, subst, ◌∙◌}
use mathlib.Core.Bool.{Bool, true, false}
use mathlib.Core.List.{List}
use Prim.Native.Nat.{ℕ, ◌+◌, ◌≤◌, ◌<◌}
use lib.ListN.{length}
use borrow.Author.Tests.{le-leb, lt-leb}
use Rattle.bus.specs.Bits.{bit}
use Rattle.bus.specs.Words.{words_at}
use Rattle.bus.specs.Bus.{run, done, words}
use Rattle.bus.proofs.Run.{run_gives, way_true, way_false, way_no, run_words, after}
use Rattle.registers.specs.declared.Csr0.{Csr0}
use Rattle.registers.specs.Bits.{STOP}
use Rattle.registers.specs.Writing.{cleared, finished}
use Rattle.card.specs.declared.Card.{Card}
use Rattle.card.specs.declared.Tried.{Tried}
use Rattle.card.specs.State.{with_csr0}
use Rattle.card.specs.Initialization.{block_address, succeeded, failed, tried, initialization, init_if_asked, write_csr0}

module _ (c : Card) (m : List ℕ) where
  -- a block that isn't wholly inside
  pub init_fails : (at : ℕ) (d : Card) → at ≡ block_address c → length m < at + 24 → d ≡ failed c
      → run (initialization c (length m)) m ≡ record { answer = record { card = d; ready = false }; memory = m }
  unfolding initialization tried
  init_fails at d e h f =
      rw (← e) (way_false _ _ m _ _ (lt-leb _ _ h) (run_gives _ _ m (ap (λ (x : Card). record { card = x; ready = false }) f)))

  -- a block that is
  pub init_works : (at : ℕ) (ws : List ℕ) (d : Card) → at ≡ block_address c → at + 24 ≤ length m → ws ≡ words_at m at 12 → d ≡ succeeded c ws
      → run (initialization c (length m)) m ≡ record { answer = record { card = d; ready = true }; memory = m }
  unfolding initialization tried
  init_works at ws d e h w f =
      rw (← e)
      (way_true _ _ m _ _ (le-leb _ _ h)
      (after (words at 12) (λ x. done (tried (succeeded c x) true)) m m (words_at m at 12) (run_words 12 at m)
      ∙ run_gives _ _ m (ap (λ (x : Card). record { card = x; ready = true }) (f ∙ ap (succeeded c) w))))

  module _ (v : ℕ) where
    -- no STOP
    pub write_goes : (s s' : Csr0) (c' d : Card) (t : Tried) (o : Bool) → o ≡ bit v STOP → o ≡ false → s ≡ cleared c.csr0 v → c' ≡ with_csr0 c s
        → run (init_if_asked c' (length m) v) m ≡ record { answer = t; memory = m }
        → s' ≡ finished t.card.csr0 t.card.mode t.ready v → d ≡ with_csr0 t.card s'
        → run (write_csr0 c (length m) v) m ≡ record { answer = d; memory = m }
    unfolding write_csr0
    write_goes s s' c' d t o eo b es ec r ef ed =
        way_no _ _ m _ o (bit v STOP) eo b
        (after _ _ m m t (subst (λ (x : Card). run (init_if_asked x (length m) v) m ≡ record { answer = t; memory = m }) (ec ∙ ap (with_csr0 c) es) r)
        ∙ run_gives _ _ m (ed ∙ ap (with_csr0 t.card) ef))
