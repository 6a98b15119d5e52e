-- `gather`: at each slot what is left to gather comes to the whole.
use mathlib.Core.Path.{◌≡◌}
use Prim.Native.Nat.{◌+◌, ◌-◌}
use lib.ListN.{length}
use Rattle.bus.specs.Words.{overwritten}
use Rattle.chain.specs.Inner.Laid.{buffers, Laid}
use Rattle.transmit.proofs.Outgoing.gather.Given as goal

abbrev pub invariant-loop : goal.invariant-loop
invariant-loop l = (length l.out ≡ length l.initial.out) × Laid l.memory l.self.ring (l.end - l.counter) l.i
    × (l.at + length (buffers l.memory l.self.ring (l.end - l.counter) l.i) ≡ length (buffers l.memory l.self.ring l.end l.initial.i))
    × (overwritten l.out l.at (buffers l.memory l.self.ring (l.end - l.counter) l.i) ≡ overwritten l.initial.out 0 (buffers l.memory l.self.ring l.end l.initial.i))
