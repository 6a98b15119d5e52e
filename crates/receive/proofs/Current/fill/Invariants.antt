use Rattle.std.proofs.Common.{◌≡◌, length, ◌-◌}
use Rattle.bus.specs.Bus.{run}
use Rattle.ring.specs.Slots.{slots}
use Rattle.receive.specs.Inner.Step.{Fits, remaining}
use Rattle.receive.proofs.Current.fill.Given as goal

abbrev pub invariant-loop : goal.invariant-loop
invariant-loop l = record {
  same_run : run (remaining (length l.memory) (l.end - l.counter) l.current) l.memory
      ≡ run (remaining (length l.initial.memory) (slots l.self.ring - 1) l.initial.current) l.initial.memory;
  fits : Fits (length l.memory) l.current;
}
