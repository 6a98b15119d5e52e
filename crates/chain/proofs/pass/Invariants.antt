-- `pass`: at each slot what is left to pass comes to the whole.
use mathlib.Core.Path.{◌≡◌}
use Prim.Native.Nat.{◌-◌}
use lib.ListN.{length}
use Rattle.bus.specs.Bus.{run}
use Rattle.ring.specs.Slots.{slots}
use Rattle.chain.specs.Start.{pass}
use Rattle.chain.proofs.pass.Given as goal

abbrev pub invariant-loop : goal.invariant-loop
invariant-loop l = (length l.memory ≡ length l.initial.memory)
    × (run (pass (length l.initial.memory) l.ring (l.end - l.counter) l.i) l.memory ≡ run (pass (length l.initial.memory) l.ring (slots l.ring) l.ring.slot) l.initial.memory)
