-- Where a turn finds the start of a frame.
use Rattle.std.specs.Prelude.{ℕ, zero, suc, ◌+◌}
use Rattle.std.specs.Prelude.{if◌then◌else◌}
use Rattle.bus.specs.Bits.{bit}
use Rattle.bus.specs.Bus.{Bus, done, store, ◌>>=◌}
use Rattle.ring.specs.declared.Slot.{Slot}
use Rattle.ring.specs.declared.Ring.{Ring}
use Rattle.ring.specs.Slots.{next, place}
use Rattle.ring.specs.Status.{STP, without_own}
use Rattle.ring.specs.Descriptor.{look, by◌outside:◌not_owned:◌owned:◌}
use Rattle.chain.specs.declared.Start.{Start}
use Rattle.chain.specs.declared.Start.TheVariants.{NoMemory, Nothing, Frame}

-- in a memory of n bytes
module _ (n : ℕ) (r : Ring) where
  -- "An owned descriptor without STP where a frame should start has only OWN cleared and is passed. Outside memory: MERR. Not
  -- owned: "idle"." Once k slots were passed none of a ring of k is owned.
  unfoldable pub pass : ℕ → Slot → Bus Start
  pass zero i = done (Nothing i)
  pass (suc k) i =
      look n r i
      >>= (λ found.
      by found
      outside: (done (NoMemory i))
      not_owned: (done (Nothing i))
      owned: (λ d.
      if bit d.status STP
      then done (Frame i d)
      else store (place r i + 3) (without_own d.status) (pass k (next r i))))
