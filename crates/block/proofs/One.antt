-- Each contract of the crate block leaves one answer, or one block: each is an equation.
use mathlib.Core.Path.{◌≡◌}
use Rattle.bus.proofs.Only.{Only, equation}
use Rattle.block.proofs.state_in.Reads as state_in
use Rattle.block.proofs.is_open.Reads as is_open
use Rattle.block.proofs.opened.Reads as opened
use Rattle.block.proofs.put_state.Reads as put_state

-- the state that a block says
pub one_state_in : Only state_in.Post
one_state_in κs a r s e f = equation

-- whether it is the block of a sound state
pub one_is_open : Only is_open.Post
one_is_open κs a r s e f = equation

-- the state of a block that opens
pub one_opened : Only opened.Post
one_opened κs a r s e f = equation

-- the block of a state
pub one_put_state : (κs : _) (a : _) (r s : _) (e f : _) → put_state.Post κs a r e → put_state.Post κs a s f → e.0.now ≡ f.0.now
one_put_state κs a r s e f = equation
