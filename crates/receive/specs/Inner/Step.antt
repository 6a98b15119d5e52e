-- What a walk has still to do at the current slot: what the contracts within this crate cite.
use Rattle.std.specs.Prelude.{ℕ, ◌+◌, ◌≤◌, drop}
use Rattle.bus.specs.Bus.{Bus, done}
use Rattle.std.specs.declared.ops.ControlFlow.{ControlFlow}
use Rattle.std.specs.declared.ops.ControlFlow.TheVariants.{Continue, Break}
use Rattle.ring.specs.Slots.{place}
use Rattle.receive.specs.declared.Walked.{Walked}
use Rattle.receive.specs.declared.Current.{Current}
use Rattle.receive.specs.Walk.{takes, beyond, fill}

-- nothing, where the walk is over; else what is to be done next
unfoldable pub onward : {A : Type 0} → ControlFlow Walked A → (A → Bus Walked) → Bus Walked
onward (Break w) on = done w
onward (Continue a) on = on a

-- the walk from the current slot on, with `left` slots that the frame may still use after it, in a memory of n bytes; what its
-- buffer takes, and the rest of the walk; the walk beyond it
unfoldable pub remaining : ℕ → ℕ → Current → Bus Walked
remaining n left c = fill n c.ring c.frame.now c.end left c.slot c.descriptor c.rest.now c.stp

unfoldable pub taken : ℕ → Current → Bus Walked → Bus Walked
taken n c = takes n c.ring c.frame.now c.end c.slot c.descriptor c.rest.now c.stp

unfoldable pub passed : ℕ → ℕ → Current → Bus Walked
passed n left c =
    beyond n c.ring c.slot c.stp (λ i d. fill n c.ring c.frame.now c.end left i d (drop c.descriptor.count c.rest.now) 0)

-- the eight bytes of the current slot's descriptor are in a memory of n bytes
pub record Fits (n : ℕ) (c : Current) : Type 0 where
  pub fits : place c.ring c.slot + 8 ≤ n
