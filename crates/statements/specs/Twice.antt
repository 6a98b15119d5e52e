-- Demand 3: two runs from one state with the same calls, each with memories of its own.
use Rattle.std.specs.Prelude.{◌≡◌, List, [], ◌∷◌, ℕ}
use Rattle.bus.specs.Secrecy.{Agree, Apart}
use Rattle.card.specs.declared.Card.{Card}
use Rattle.statements.specs.Runs.{Call, step}
use Rattle.statements.specs.Premise.{Premise}

-- a call, and the memory lent to it in each run
pub record Twice : Type 0 where
  pub call : Call
  pub one : List ℕ
  pub two : List ℕ

-- at the start of each call the memories have one length and agree on the premise; between calls the game changes them as it likes
unfoldable pub Agreed : Card → List Twice → Type 0
Agreed c [] = Unit {0}
Agreed c (t ∷ ts) = Agree (Premise c t.one) t.one t.two × Agreed (step t.call c t.one).answer.answer.card ts

-- each call gives both runs the same reply (state, number, answer, value, length and line) and the same frame, and leaves each byte
-- equal in both memories or, in each, as it was before the call
unfoldable pub Same : Card → Card → List Twice → Type 0
Same c d [] = Unit {0}
Same c d (t ∷ ts) =
    ((step t.call c t.one).answer ≡ (step t.call d t.two).answer)
    × Apart t.one t.two (step t.call c t.one).memory (step t.call d t.two).memory
    × Same (step t.call c t.one).answer.answer.card (step t.call d t.two).answer.answer.card ts
