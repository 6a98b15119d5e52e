-- Each public contract of the crate registers leaves one answer.
use Rattle.bus.proofs.Only.{Only, equation}
use Rattle.registers.proofs.Csr0.line_of.Reads as line_of
use Rattle.registers.proofs.Csr0.word.Reads as word
use Rattle.registers.proofs.Csr0.stopped.Reads as stopped
use Rattle.registers.proofs.Csr0.changed.Reads as changed
use Rattle.registers.proofs.Csr0.is_sound_csr0.Reads as is_sound_csr0
use Rattle.registers.proofs.control.Csr0FromU16.from.Reads as csr0_of
use Rattle.registers.proofs.Csr0.cleared.Reads as cleared
use Rattle.registers.proofs.Csr0.finished.Reads as finished
use Rattle.registers.proofs.table.is_nowhere.Reads as is_nowhere
use Rattle.registers.proofs.table.is_locked.Reads as is_locked
use Rattle.registers.proofs.table.is_only_read.Reads as is_only_read
use Rattle.registers.proofs.Written.keep.Reads as keep
use Rattle.registers.proofs.Written.is_settled.Reads as is_settled

-- the level of the interrupt line
pub one_line_of : Only line_of.Post
one_line_of κs a r s e f = equation

-- the word of CSR0
pub one_word : Only word.Post
one_word κs a r s e f = equation

-- CSR0 after reset
pub one_stopped : Only stopped.Post
one_stopped κs a r s e f = equation

-- CSR0 with bits changed
pub one_changed : Only changed.Post
one_changed κs a r s e f = equation

-- whether CSR0 is sound
pub one_is_sound_csr0 : Only is_sound_csr0.Post
one_is_sound_csr0 κs a r s e f = equation

-- CSR0 of its word
pub one_csr0_of : Only csr0_of.Post
one_csr0_of κs a r s e f = equation

-- the bits that a write clears
pub one_cleared : Only cleared.Post
one_cleared κs a r s e f = equation

-- the rest of a write to CSR0
pub one_finished : Only finished.Post
one_finished κs a r s e f = equation

-- whether there is no register at an offset
pub one_is_nowhere : Only is_nowhere.Post
one_is_nowhere κs a r s e f = equation

-- whether the register at an offset is locked
pub one_is_locked : Only is_locked.Post
one_is_locked κs a r s e f = equation

-- whether the register at an offset only reads
pub one_is_only_read : Only is_only_read.Post
one_is_only_read κs a r s e f = equation

-- the written registers after a write
pub one_keep : Only keep.Post
one_keep κs a r s e f = equation

-- whether they have only bits that they keep
pub one_is_settled : Only is_settled.Post
one_is_settled κs a r s e f = equation
