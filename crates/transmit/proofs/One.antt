-- The contract of the crate transmit leaves one answer, one memory and one outgoing slice.
use mathlib.Core.List.{List}
use Prim.Native.Nat.{ℕ}
use Rattle.bus.proofs.Only.{OnlyWith, left}
use Rattle.transmit.proofs.turn.Reads as turn

-- a turn on the transmit ring
pub one_turn : OnlyWith {H = List ℕ × List ℕ} turn.Post (λ κs e. (e.0.now, e.1.1.1.1.0.now))
one_turn κs a r s e f = left
