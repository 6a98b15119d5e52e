-- `beyond`: the next slot is owned.
use Rattle.std.proofs.lemmas.List.{take_rest}
use Rattle.ring.proofs.Finding.{look_inside}
use Rattle.receive.specs.Inner.Step.{onward, remaining}
use Rattle.receive.proofs.Leaving.{next_goes, goes_to}
use Rattle.receive.proofs.Current.beyond.Goals as goal

pub returns-clause-same_run : goal.returns-clause-same_run
unfolding onward remaining
returns-clause-same_run c left = search (next_goes, take_rest)

pub returns-clause-fits : goal.returns-clause-fits
returns-clause-fits c = search (goes_to, look_inside)
