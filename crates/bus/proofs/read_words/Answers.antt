-- `read_words`: the words read so far are those that stand there.
use native.Mathlib.Omega.{arith}
use Rattle.bus.proofs.Bytes.{read_more, read_all, read_none}
use Rattle.bus.proofs.read_words.Goals as goal

pub loop-i-init : goal.loop-i-init
loop-i-init c = read_none _ _ _

pub loop-i-preserved : goal.loop-i-preserved
loop-i-preserved c =
    read_more _ _ _ _ _ _ _ _ c.loop-i.invariant (omega (arith, c.loop-i.invariant.long, c.loop-i-test.true)) c.joined.ensures (omega arith)
    (omega arith)

pub returns : goal.returns
returns c = search read_all
