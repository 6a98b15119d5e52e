-- `ending`: each end of a chain has its law.
use Rattle.chain.specs.declared.Close.TheVariants.{Whole, Short, Long}
use Rattle.chain.specs.Inner.Laid.{Ready}
use Rattle.transmit.proofs.Turns.{ready_is, end_whole, end_memory, end_short, end_long}
use Rattle.transmit.proofs.Outgoing.ending.Goals as goal
use Rattle.transmit.proofs.Outgoing.ending.Goals.{in-Short, in-Long}

pub send-requires : goal.send-requires
unfolding Ready
send-requires c = search (ready_is Whole)

pub give_back-requires-clause-given : goal.give_back-requires-clause-given
unfolding Ready
give_back-requires-clause-given c =
    elim c.match-close.branch [ in-Short w ↦ search (ready_is Short) | in-Long w ↦ search (ready_is Long) ]

pub returns-in-Whole : goal.returns-in-Whole
returns-in-Whole c = search end_whole

pub returns-in-Memory : goal.returns-in-Memory
returns-in-Memory c = search end_memory

pub returns : goal.returns
returns c = elim c.match-close.branch [ in-Short w ↦ search end_short | in-Long w ↦ search end_long ]
