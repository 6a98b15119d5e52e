-- What a call with a sound state gives back.
use Rattle.std.specs.Prelude.{ℕ, ◌<◌, ◌≡◌, true, List, get_or}
use Rattle.answers.specs.Answers.{answer_number}
use Rattle.card.specs.State.{line}
use Rattle.card.specs.Sound.{sound}
use Rattle.card.specs.declared.Reply.{Reply}

-- memory holds bytes
abbrev pub Bytes : List ℕ → Type 0
Bytes m = (a : ℕ) → get_or m a 0 < 256

-- a sound state, the line that CSR0 says, and never refusal 9
pub record Soundly (r : Reply) : Type 0 where
  pub state : sound r.card ≡ true
  pub level : r.line ≡ line r.card
  pub number : answer_number r.answer ≡ 9 → ⊥
