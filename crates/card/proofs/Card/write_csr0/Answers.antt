-- `write_csr0`: without STOP.
use Rattle.card.proofs.Initializing.{write_goes}
use Rattle.card.proofs.Card.write_csr0.Goals as goal

pub returns : goal.returns
returns c = search write_goes
