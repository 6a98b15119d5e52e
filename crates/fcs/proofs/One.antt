-- Each contract of the crate fcs leaves one answer.
use Rattle.bus.proofs.Only.{Only, equation, bounded}
use Rattle.fcs.proofs.register_of.Reads as register_of
use Rattle.fcs.proofs.fcs_of.Reads as fcs_of
use Rattle.fcs.proofs.right_fcs.Reads as right_fcs
use Rattle.fcs.proofs.hash_of.Reads as hash_of

-- the register over some bytes
pub one_register_of : Only register_of.Post
one_register_of κs a r s e f = equation

-- the FCS of some bytes
pub one_fcs_of : Only fcs_of.Post
one_fcs_of κs a r s e f = equation

-- whether a frame ends in its FCS
pub one_right_fcs : Only right_fcs.Post
one_right_fcs κs a r s e f = equation

-- the hash of an address
pub one_hash_of : Only hash_of.Post
one_hash_of κs a r s e f = bounded
