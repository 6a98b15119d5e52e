-- Each contract of the crate tally leaves one answer.
use Rattle.bus.proofs.Only.{Only, equation}
use Rattle.tally.proofs.Tally.none.Reads as none
use Rattle.tally.proofs.Tally.with.Reads as with_one
use Rattle.tally.proofs.same.Reads as same

-- the tally before the first
pub one_none : Only none.Post
one_none κs a r s e f = equation

-- the tally with one more
pub one_with : Only with_one.Post
one_with κs a r s e f = equation

-- whether two slices have the same bytes
pub one_same : Only same.Post
one_same κs a r s e f = equation
