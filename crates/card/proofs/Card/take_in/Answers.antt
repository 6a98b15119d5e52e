-- `take_in`: the walk, then what it leaves.
use Rattle.card.proofs.Answering.{took_in}
use Rattle.card.proofs.Card.take_in.Goals as goal

pub returns : goal.returns
returns c = search took_in
