-- What the acts hand back.
use mathlib.Core.Path.{◌≡◌, sym, ap, ◌∙◌}
use mathlib.Core.Bool.{Bool}
use mathlib.Core.List.{List}
use Prim.Native.Nat.{ℕ}
use lib.ListN.{length}
use Rattle.bus.specs.Bus.{Bus, Ended, run, done, Handed, empty_handed, Left, leaves, ◌>>=◌}
use Rattle.bus.proofs.Run.{run_gives, run_done, run_then, after}
use Rattle.fcs.specs.Fcs.{right_fcs}
use Rattle.receive.specs.declared.Walked.{Walked}
use Rattle.receive.specs.Status.{end_status}
use Rattle.receive.specs.Walk.{walk}
use Rattle.transmit.specs.declared.Report.{Report}
use Rattle.transmit.specs.declared.Turned.{Turned}
use Rattle.transmit.specs.Turn.{turn}
use Rattle.answers.specs.declared.Answer.TheVariants.{Done}
use Rattle.card.specs.declared.Card.{Card}
use Rattle.card.specs.declared.Reply.{Reply}
use Rattle.card.specs.Replies.{replied}
use Rattle.card.specs.Arrival.{arrived, take_in}
use Rattle.card.specs.Turning.{turned, take_turn}

-- a write that isn't refused
pub wrote : (p : Bus Card) (m : List ℕ) (d : Card) (r : Reply) → run p m ≡ record { answer = d; memory = m } → r ≡ replied d (Done 0)
    → run (p >>= (λ x. done (replied x (Done 0)))) m ≡ record { answer = r; memory = m }
wrote p m d r h e = after p (λ x. done (replied x (Done 0))) m m d h ∙ run_gives _ _ m e

-- a walk, then what it leaves
pub took_in : (c : Card) (m m' f : List ℕ) (extra : ℕ) (right : Bool) (w : Walked) (r : Reply) → right ≡ right_fcs f
    → run (walk (length m) c.receive f (end_status right extra)) m ≡ record { answer = w; memory = m' }
    → r ≡ arrived c w.slot w.ending → run (take_in c (length m) f extra) m ≡ record { answer = r; memory = m' }
unfolding take_in
took_in c m m' f extra right w r er ew et = after _ _ m m' w (rw (← er) ew) ∙ run_gives _ _ m' et

-- the ring's turn, then what it leaves
pub took_turn : (c : Card) (m m' out out' : List ℕ) (w : Report) (t : Turned) (r : Reply)
    → leaves (run (turn (length m) c.transmit c.mode w) m) out ≡ record { answer = t; memory = m'; out = out' }
    → r ≡ turned c w.noheartbeat t.slot t.outcome
    → leaves (run (take_turn c (length m) w) m) out ≡ record { answer = r; memory = m'; out = out' }
unfolding take_turn leaves
took_turn c m m' out out' w t r ew et =
    ap (λ (x : Ended (Handed Reply)). leaves x out) (run_then _ _ m ∙ run_done _ _)
    ∙ ap (λ (x : Left Turned). record { answer = turned c w.noheartbeat x.answer.slot x.answer.outcome; memory = x.memory; out = x.out }) ew
    ∙ ap (λ (x : Reply). record { answer = x; memory = m'; out = out' }) (sym et)

-- nothing is handed out
pub leaves_empty : {A : Type 0} (m out : List ℕ) (r s : A) → s ≡ r → leaves (run (done (empty_handed r)) m) out ≡ record { answer = s; memory = m; out = out }
unfolding leaves empty_handed run
leaves_empty m out r s e = ap (λ (x : _). record { answer = x; memory = m; out = out }) (sym e)
