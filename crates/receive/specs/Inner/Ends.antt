-- How a walk ends at what is found at a slot that the card doesn't own: what the contracts within this crate cite.
use Rattle.std.specs.Prelude.{ℕ}
use Rattle.bus.specs.Bus.{Bus}
use Rattle.ring.specs.declared.Slot.{Slot}
use Rattle.ring.specs.declared.Ring.{Ring}
use Rattle.ring.specs.declared.Found.{Found}
use Rattle.ring.specs.Descriptor.{by◌outside:◌not_owned:◌owned:◌}
use Rattle.receive.specs.declared.Walked.{Walked}
use Rattle.receive.specs.declared.Ending.{Ending}
use Rattle.receive.specs.declared.Ending.TheVariants.{Memory, Missed}
use Rattle.receive.specs.Walk.{cut, merr}

-- the walk's end at a slot whose next one is outside the memory or not owned
unfoldable pub stops_at : Ring → Slot → ℕ → Found → Bus Walked
stops_at r i stp found =
    by found
    outside: (merr r i stp)
    not_owned: (cut r i stp)
    owned: (λ d. cut r i stp)

-- how a walk ends whose first slot is outside the memory or not owned
unfoldable pub ending_of : Found → Ending
ending_of found = by found outside: Memory not_owned: Missed owned: (λ d. Missed)
