-- The contract of the crate filter leaves one answer.
use Rattle.bus.proofs.Only.{Only, equation}
use Rattle.filter.proofs.is_ours.Reads as is_ours

-- whether a destination is ours
pub one_is_ours : Only is_ours.Post
one_is_ours κs a r s e f = equation
