-- `link`: each way is a law of one slot more.
use Rattle.chain.proofs.Chains.{link_outside, link_not_owned, link_owned, look_counted}
use Rattle.chain.proofs.link.Goals as goal

pub grow-requires-clause-counted : goal.grow-requires-clause-counted
grow-requires-clause-counted c = search look_counted

pub returns-in-Outside : goal.returns-in-Outside
returns-in-Outside c = search link_outside

pub returns-in-NotOwned : goal.returns-in-NotOwned
returns-in-NotOwned c = search link_not_owned

pub returns-in-Owned : goal.returns-in-Owned
returns-in-Owned c = search link_owned
