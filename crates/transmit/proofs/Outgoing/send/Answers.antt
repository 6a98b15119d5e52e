-- `send`: handed out or failed, the chain is given back.
use Prim.Native.Nat.{◌≤◌}
use native.Mathlib.Omega.{arith}
use lib.ListN.{length}
use Rattle.transmit.proofs.Turns.{send_sent, send_failed}
use Rattle.transmit.proofs.Outgoing.send.Goals as goal
use Rattle.transmit.proofs.Outgoing.send.Goals.{then-hands_out, else-hands_out}

pub returns : goal.returns
returns c =
    let room : 4100 ≤ length c.args.out.now = omega arith in
    elim c.if-hands_out.branch [ then-hands_out w ↦ search send_sent | else-hands_out w ↦ search send_failed ]
