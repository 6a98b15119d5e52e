-- What a call hands back: the state, the answer and the level of the interrupt line.
use Rattle.std.specs.Prelude.{not, ◌&&◌, eqb}
use Rattle.answers.specs.declared.Refusal.{Refusal}
use Rattle.answers.specs.declared.Answer.{Answer}
use Rattle.answers.specs.declared.Answer.TheVariants.{Refused}
use Rattle.answers.specs.Refusals.{refusal_number}
use Rattle.card.specs.declared.Card.{Card}
use Rattle.card.specs.declared.Reply.{Reply}
use Rattle.card.specs.State.{line}

-- a call that is not refused: "the level of the interrupt line" is that of the state handed back
unfoldable pub replied : Card → Answer → Reply
replied c a = record { card = c; answer = a; line = line c }

-- a call that is refused: "The line's level is that of the kept state; with 9 it is reported low."
unfoldable pub refused : Card → Refusal → Reply
refused c r = record { card = c; answer = Refused r; line = not (eqb (refusal_number r) 9) && line c }
