-- `release`: at each slot what is left to release comes to the whole.
use mathlib.Core.Path.{◌≡◌}
use Prim.Native.Nat.{◌-◌}
use lib.ListN.{length}
use Rattle.bus.specs.Bus.{run}
use Rattle.chain.specs.Inner.Laid.{Placed}
use Rattle.transmit.specs.Turn.{release}
use Rattle.transmit.proofs.Outgoing.release.Given as goal

abbrev pub invariant-loop : goal.invariant-loop
invariant-loop l = (length l.memory ≡ length l.initial.memory) × Placed (length l.initial.memory) l.self.ring (l.end - l.counter) l.i
    × (run (release l.self.ring (l.end - l.counter) l.i) l.memory ≡ run (release l.self.ring (l.end - 1) l.initial.i) l.initial.memory)
