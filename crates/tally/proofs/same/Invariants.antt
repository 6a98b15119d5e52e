-- `same`: what is left of both is the same just where the whole is.
use Rattle.std.proofs.Common.{◌≡◌, length, drop}
use Rattle.tally.specs.Counting.{alike}
use Rattle.tally.proofs.same.Given as goal

abbrev pub invariant-loop-i : goal.invariant-loop-i
invariant-loop-i l = (length l.a ≡ length l.b) × (alike (drop l.i l.a) (drop l.i l.b) ≡ alike l.a l.b)
