-- `take_turn`: the ring's turn, then what it leaves.
use Rattle.card.proofs.Answering.{took_turn}
use Rattle.card.proofs.Card.take_turn.Goals as goal

pub returns : goal.returns
returns c = search took_turn
