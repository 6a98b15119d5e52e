-- An act on the state of a block that opens, and what the entries hand back of it.
use mathlib.Core.Path.{◌≡◌, sym, ap, ◌∙◌}
use mathlib.Core.List.{List}
use Prim.Native.Nat.{ℕ, ◌%◌}
use lib.ListN.{length}
use Rattle.std.specs.Prelude.{if◌then◌else◌, Option, Some}
use Rattle.bus.specs.Bus.{Bus, Ended, done, run, Handed, empty_handed, Left, leaves, ◌>>=◌}
use Rattle.bus.proofs.Run.{after, run_gives, run_done, run_then}
use Rattle.transmit.specs.declared.Report.{Report}
use Rattle.card.specs.declared.Card.{Card}
use Rattle.card.specs.declared.Reply.{Reply}
use Rattle.card.specs.Acts.{reading, writing}
use Rattle.card.specs.Arrival.{arriving}
use Rattle.card.specs.Turning.{turning}
use Rattle.block.specs.Block.{state_in, opens, opened}
use Rattle.block.proofs.Opens.{goes_some, goes_none}
use Rattle.am79c960.specs.Entries.{Given, given, shut, read_entry, write_entry, arrive_entry, turn_entry}

module _ (b : List ℕ) (o : Option Card) (e : o ≡ opened b) where
  -- a block that opens takes the act
  module _ (c : Card) (y : o ≡ Some c) where
    pub read_goes : (t : Reply) (offset : ℕ) (g : Given) → t ≡ reading c offset → given b t ≡ g → read_entry b offset ≡ g
    unfolding read_entry
    read_goes t offset g q h =
        goes_some b o e (λ x. given b (reading x offset)) (shut b) c y ∙ ap (given b) (sym q) ∙ h

    acts : (f : Card → Bus Reply) (m m' : List ℕ) (t : Reply) (g : Given) → run (f c) m ≡ record { answer = t; memory = m' } → given b t ≡ g
        → run (if opens b then (f (state_in b) >>= (λ r. done (given b r))) else done (shut b)) m ≡ record { answer = g; memory = m' }
    acts f m m' t g q h =
        ap (λ (x : Bus Given). run x m) (goes_some b o e (λ x. f x >>= (λ r. done (given b r))) (done (shut b)) c y)
        ∙ after (f c) (λ r. done (given b r)) m m' t q ∙ run_gives (given b t) g m' (sym h)

    pub write_goes : (m : List ℕ) (t : Reply) (offset value : ℕ) (g : Given)
        → run (writing c (length m) offset (value % 65536)) m ≡ record { answer = t; memory = m } → given b t ≡ g
        → run (write_entry b (length m) offset value) m ≡ record { answer = g; memory = m }
    unfolding write_entry
    write_goes m t offset value g = acts (λ x. writing x (length m) offset (value % 65536)) m m t g

    pub arrive_goes : (m m' f : List ℕ) (t : Reply) (extra : ℕ) (g : Given)
        → run (arriving c (length m) f extra) m ≡ record { answer = t; memory = m' } → given b t ≡ g
        → run (arrive_entry b (length m) f extra) m ≡ record { answer = g; memory = m' }
    unfolding arrive_entry
    arrive_goes m m' f t extra g = acts (λ x. arriving x (length m) f extra) m m' t g

    pub turn_goes : (m m' out out' : List ℕ) (t : Reply) (w : Report) (g : Given)
        → leaves (run (turning c (length m) (length out) w) m) out ≡ record { answer = t; memory = m'; out = out' } → given b t ≡ g
        → leaves (run (turn_entry b (length m) (length out) w) m) out ≡ record { answer = g; memory = m'; out = out' }
    unfolding turn_entry leaves
    turn_goes m m' out out' t w g q h =
        ap (λ (x : Bus (Handed Given)). leaves (run x m) out)
        (goes_some b o e (λ x. turning x (length m) (length out) w >>= (λ k. done (record { answer = given b k.answer; frame = k.frame })))
        (done (empty_handed (shut b))) c y)
        ∙ ap (λ (x : Ended (Handed Given)). leaves x out) (run_then _ _ m ∙ run_done _ _)
        ∙ ap (λ (x : Left Reply). record { answer = given b x.answer; memory = x.memory; out = x.out }) q
        ∙ ap (λ (x : Given). record { answer = x; memory = m'; out = out' }) h

  -- .. and any other is kept
  module _ (n : (c : Card) → o ≡ Some c → ⊥) where
    pub read_shut : (offset : ℕ) → read_entry b offset ≡ record { result = 9; block = b }
    unfolding read_entry shut
    read_shut offset = goes_none b o e (given b (reading (state_in b) offset)) (shut b) n

    kept : (m : List ℕ) (x : Bus Given)
        → run (if opens b then x else done (shut b)) m ≡ record { answer = record { result = 9; block = b }; memory = m }
    unfolding shut
    kept m x = ap (λ (p : Bus Given). run p m) (goes_none b o e x (done (shut b)) n) ∙ run_done (shut b) m

    pub write_shut : (m : List ℕ) (offset value : ℕ)
        → run (write_entry b (length m) offset value) m ≡ record { answer = record { result = 9; block = b }; memory = m }
    unfolding write_entry
    write_shut m offset value = kept m _

    pub arrive_shut : (m f : List ℕ) (extra : ℕ)
        → run (arrive_entry b (length m) f extra) m ≡ record { answer = record { result = 9; block = b }; memory = m }
    unfolding arrive_entry
    arrive_shut m f extra = kept m _

    pub turn_shut : (m out : List ℕ) (w : Report)
        → leaves (run (turn_entry b (length m) (length out) w) m) out ≡ record { answer = record { result = 9; block = b }; memory = m; out = out }
    unfolding turn_entry leaves shut empty_handed
    turn_shut m out w =
        ap (λ (x : Bus (Handed Given)). leaves (run x m) out) (goes_none b o e _ (done (empty_handed (shut b))) n)
        ∙ ap (λ (x : Ended (Handed Given)). leaves x out) (run_done _ m)
