-- `walk`: the first slot ends the walk, or is owned.
use Rattle.ring.proofs.Finding.{look_inside}
use Rattle.receive.specs.Inner.Step.{remaining}
use Rattle.receive.proofs.Begins.{walk_refused, walk_owned}
use Rattle.receive.proofs.walk.Goals as goal

pub returns-in_default : goal.returns-in_default
returns-in_default c = search (walk_refused, c.in_default.not-Owned)

pub fill-requires : goal.fill-requires
fill-requires c = record { fits = search look_inside }

pub returns : goal.returns
unfolding remaining
returns c = search walk_owned
