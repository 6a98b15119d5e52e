-- Each contract of the crate chain leaves one answer, and one memory where it writes.
use Rattle.bus.proofs.Only.{Only, OnlyWith, ended}
use Rattle.chain.proofs.pass.Reads as pass
use Rattle.chain.proofs.read_chain.Reads as read_chain

-- the slots passed up to the start of a frame
pub one_pass : OnlyWith pass.Post (λ κs e. e.0.now)
one_pass κs a r s e f = ended

-- the chain of a frame
pub one_read_chain : Only read_chain.Post
one_read_chain κs a r s e f p q = (ended p q).0
