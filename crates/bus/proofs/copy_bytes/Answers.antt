-- `copy_bytes`: at each byte what is left to copy comes to the whole.
use lib.ListN.{length-set}
use borrow.Author.Rules.{rules}
use Rattle.bus.proofs.Bytes.{copy_start, copy_on, copy_end}
use Rattle.bus.proofs.copy_bytes.Goals as goal

pub loop-i-init : goal.loop-i-init
loop-i-init c = search copy_start

pub loop-i-preserved : goal.loop-i-preserved
loop-i-preserved c = (simp length-set (search rules), search copy_on)

pub returns : goal.returns
returns c = search copy_end
