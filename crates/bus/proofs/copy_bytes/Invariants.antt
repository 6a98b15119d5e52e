-- `copy_bytes`: at each byte what is left to copy comes to the whole.
use mathlib.Core.Path.{◌≡◌}
use Prim.Native.Nat.{◌+◌, ◌-◌}
use lib.ListN.{length}
use Rattle.bus.specs.Words.{part, overwritten}
use Rattle.bus.proofs.copy_bytes.Given as goal

abbrev pub invariant-loop-i : goal.invariant-loop-i
invariant-loop-i l = (length l.to ≡ length l.initial.to) × (overwritten l.to (l.at + l.i) (part l.from (l.start + l.i) (l.count - l.i)) ≡ overwritten l.initial.to l.at (part l.from l.start l.count))
