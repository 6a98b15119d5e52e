-- `give_back`: all slots but the last are released, and the last is finished.
use Rattle.transmit.proofs.Releasing.{last_placed, given_back}
use Rattle.transmit.proofs.Outgoing.give_back.Goals as goal

pub finish-requires-clause-last_inside : goal.finish-requires-clause-last_inside
finish-requires-clause-last_inside c = search last_placed

pub returns : goal.returns
returns c = search given_back
