-- `hand_out`: the frame stands in the slice, with its FCS or without.
use Prim.Native.Nat.{◌≤◌}
use native.Mathlib.Omega.{arith}
use lib.ListN.{length}
use Rattle.transmit.proofs.Frames.{fcs_long, fcs_behind, bare_long, bare_written}
use Rattle.transmit.proofs.Outgoing.hand_out.Goals as goal

pub returns-then-self : goal.returns-then-self
returns-then-self c = let room : 4100 ≤ length c.args.out.now = omega arith in (search fcs_long, search fcs_behind)

pub returns : goal.returns
returns c = (search bare_long, search bare_written)
