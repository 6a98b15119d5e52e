-- `am79c960_entry_arrive`: a block that opens takes the act.
use Rattle.am79c960.proofs.Entering.{arrive_goes}
use Rattle.am79c960.proofs.am79c960_entry_arrive.Goals as goal

pub returns : goal.returns
returns c = search arrive_goes
