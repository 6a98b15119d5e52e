-- `same`: what is left of both is the same just where the whole is.
use Rattle.std.proofs.Common.{rules}
use Rattle.tally.proofs.Alike.{other_length, differs, goes_on, nothing_left}
use Rattle.tally.proofs.same.Goals as goal

pub returns-then-a-b : goal.returns-then-a-b
returns-then-a-b c = search other_length

pub returns-then-a-i : goal.returns-then-a-i
returns-then-a-i c = search differs

pub loop-i-preserved : goal.loop-i-preserved
loop-i-preserved c = search (goes_on, rules)

pub returns : goal.returns
returns c = search nothing_left
