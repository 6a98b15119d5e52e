-- `fill`: the turns of a walk, and its last slot.
use Rattle.receive.proofs.Filling.{turn_over, turn_on, last_over, last_cut}
use Rattle.receive.proofs.Current.fill.Goals as goal

pub returns-in-Break : goal.returns-in-Break
returns-in-Break c = search turn_over

pub loop-preserved : goal.loop-preserved
loop-preserved c =
    record { same_run = search turn_on; fits = rw c.fill_slot.auto.memory (c.fill_slot.ensures.fits _ c.in-Continue.is) }

pub returns-in-Break-takes : goal.returns-in-Break-takes
returns-in-Break-takes c = search last_over

pub returns-in-Continue-takes : goal.returns-in-Continue-takes
returns-in-Continue-takes c = search last_cut
