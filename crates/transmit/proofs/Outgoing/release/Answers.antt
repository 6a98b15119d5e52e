-- `release`: at each slot what is left to release comes to the whole.
use borrow.Author.Rules.{rules}
use Rattle.transmit.proofs.Releasing.{release_over, release_on, placed_status, placed_rest}
use Rattle.transmit.proofs.Outgoing.release.Goals as goal

pub bounds-memory-at : goal.bounds-memory-at
bounds-memory-at c = search placed_status

pub bounds-memory-at-in-loop : goal.bounds-memory-at-in-loop
bounds-memory-at-in-loop c = search placed_status

pub loop-preserved : goal.loop-preserved
loop-preserved c = (search rules, search placed_rest, search release_on)

pub returns : goal.returns
returns c = search release_over
