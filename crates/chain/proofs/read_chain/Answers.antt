-- `read_chain`: a chain that goes on to the ring's end is short.
use Rattle.chain.proofs.Chains.{chain_open, chain_over}
use Rattle.chain.proofs.read_chain.Goals as goal

pub returns-in-Continue : goal.returns-in-Continue
returns-in-Continue c = search chain_open

pub returns-in-Break : goal.returns-in-Break
returns-in-Break c = search chain_over
