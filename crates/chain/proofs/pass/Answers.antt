-- `pass`: at each slot what is left to pass comes to the whole.
use borrow.Author.Rules.{rules}
use Rattle.chain.proofs.Passing.{look_inside, pass_over, pass_outside, pass_not_owned, pass_frame, pass_on}
use Rattle.chain.proofs.pass.Goals as goal

pub returns-in-Outside : goal.returns-in-Outside
returns-in-Outside c = search pass_outside

pub returns-in-NotOwned : goal.returns-in-NotOwned
returns-in-NotOwned c = search pass_not_owned

pub returns-then-stp-eq1 : goal.returns-then-stp-eq1
returns-then-stp-eq1 c = search pass_frame

pub bounds-memory-at : goal.bounds-memory-at
bounds-memory-at c = search look_inside

pub loop-preserved : goal.loop-preserved
loop-preserved c = (search rules, search pass_on)

pub returns : goal.returns
returns c = search pass_over
