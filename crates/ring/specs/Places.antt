-- The bytes of memory that belong to a ring: those of its descriptors, and those of the buffers that the card owns.
use Rattle.std.specs.Prelude.{ℕ, ◌+◌, ◌≤◌, ◌<◌, List, get_or}
use Rattle.bus.specs.Words.{part}
use Rattle.ring.specs.declared.Slot.{Slot}
use Rattle.ring.specs.declared.Ring.{Ring}
use Rattle.ring.specs.declared.Descriptor.{Descriptor}
use Rattle.ring.specs.Slots.{slots, place}
use Rattle.ring.specs.Status.{OWN}
use Rattle.ring.specs.Descriptor.{described}

-- what a slot's descriptor says in a memory
unfoldable pub descriptor : Ring → List ℕ → Slot → Descriptor
descriptor r m i = described (part m (place r i) 8)

-- a byte of one of a ring's descriptors
pub record InRing (r : Ring) (a : ℕ) : Type 0 where
  pub slot : Slot
  pub within : slot.0 < slots r
  pub from : place r slot ≤ a
  pub to : a < place r slot + 8

-- a byte of the buffer of a descriptor that the card owns
pub record InBuffer (r : Ring) (m : List ℕ) (a : ℕ) : Type 0 where
  pub slot : Slot
  pub within : slot.0 < slots r
  pub owned : OWN ≤ get_or m (place r slot + 3) 0
  pub from : (descriptor r m slot).address ≤ a
  pub to : a < (descriptor r m slot).address + (descriptor r m slot).count
