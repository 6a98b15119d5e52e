-- `am79c960_entry_turn`: a block that opens takes the turn.
use Rattle.am79c960.proofs.Entering.{turn_goes}
use Rattle.am79c960.proofs.am79c960_entry_turn.Goals as goal

pub returns : goal.returns
returns c = search turn_goes
