-- The contract of the crate receive leaves one answer and one memory.
use Rattle.bus.proofs.Only.{OnlyWith, ended}
use Rattle.receive.proofs.walk.Reads as walk

-- the walk of a frame through the receive ring
pub one_walk : OnlyWith walk.Post (λ κs e. e.0.now)
one_walk κs a r s e f = ended
