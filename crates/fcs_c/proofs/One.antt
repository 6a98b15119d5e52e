-- Each contract of the crate fcs_c leaves one answer.
use Rattle.bus.proofs.Only.{Only, equation, bounded}
use Rattle.fcs_c.proofs.am79c960_fcs.Reads as am79c960_fcs
use Rattle.fcs_c.proofs.am79c960_right_fcs.Reads as am79c960_right_fcs
use Rattle.fcs_c.proofs.am79c960_hash.Reads as am79c960_hash

-- the FCS of some bytes
pub one_am79c960_fcs : Only am79c960_fcs.Post
one_am79c960_fcs κs a r s e f = equation

-- whether a frame ends in its FCS
pub one_am79c960_right_fcs : Only am79c960_right_fcs.Post
one_am79c960_right_fcs κs a r s e f = equation

-- the hash of an address
pub one_am79c960_hash : Only am79c960_hash.Post
one_am79c960_hash κs a r s e f = bounded
