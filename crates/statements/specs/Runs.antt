-- Calls one after another, each with the memory lent to it.
use Rattle.std.specs.Prelude.{ℕ, List, [], ◌∷◌, length}
use Rattle.bus.specs.Bus.{Bus, done, Ended, run, Handed, empty_handed, ◌>>=◌}
use Rattle.transmit.specs.declared.Report.{Report}
use Rattle.card.specs.declared.Card.{Card}
use Rattle.card.specs.declared.Reply.{Reply}
use Rattle.card.specs.Acts.{resetting, reading, writing}
use Rattle.card.specs.Arrival.{arriving}
use Rattle.card.specs.Turning.{turning}
use Rattle.statements.specs.Soundly.{Bytes}

-- an act with its arguments
pub data Call : Type 0 where
  reset : Call
  read : (offset : ℕ) → Call
  write : (offset v : ℕ) → Call
  arrive : (f : List ℕ) (extra : ℕ) → Call
  turn : (out : ℕ) (w : Report) → Call

-- its program on a card, in a memory of n bytes: the reply, and the frame handed out
unfoldable pub act : Call → Card → ℕ → Bus (Handed Reply)
act reset c n = done (empty_handed resetting)
act (read offset) c n = done (empty_handed (reading c offset))
act (write offset v) c n = writing c n offset v >>= (λ r. done (empty_handed r))
act (arrive f extra) c n = arriving c n f extra >>= (λ r. done (empty_handed r))
act (turn out w) c n = turning c n out w

-- .. and what it leaves in a memory
unfoldable pub step : Call → Card → List ℕ → Ended (Handed Reply)
step call c m = run (act call c (length m)) m

-- a call and the memory lent to it
pub record Lent : Type 0 where
  pub call : Call
  pub memory : List ℕ
  pub bytes : Bytes memory

-- the state after some calls
unfoldable pub after : Card → List Lent → Card
after c [] = c
after c (l ∷ ls) = after (step l.call c l.memory).answer.answer.card ls
