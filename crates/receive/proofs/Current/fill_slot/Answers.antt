-- `fill_slot`: the frame goes beyond the slot.
use Rattle.receive.proofs.Filling.{slot_passed}
use Rattle.receive.proofs.Current.fill_slot.Goals as goal

pub returns-clause-same_run : goal.returns-clause-same_run
returns-clause-same_run c left = let o = c.in_ok-takes.was in search slot_passed
