-- `is_sound_csr0`: what the comparison gives is that nothing but STOP is set.
use Rattle.registers.specs.Csr0.{sound_csr0}
use Rattle.registers.proofs.Still.{still_is}
use Rattle.registers.proofs.Csr0.is_sound_csr0.Goals as goal

pub returns : goal.returns
unfolding sound_csr0
returns c = rw (still_is c.args.self c.stopped.result c.eq.result c.stopped.ensures c.eq.ensures)
