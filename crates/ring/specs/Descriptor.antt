-- What a descriptor says, and how the card reads one.
use Rattle.std.specs.Prelude.{ℕ, ◌+◌, ◌-◌, ◌*◌, ◌%◌, List, get_or, leb}
use Rattle.std.specs.Prelude.{if◌then◌else◌}
use Rattle.bus.specs.Words.{joined}
use Rattle.bus.specs.Bus.{Bus, done, reads, ◌>>=◌}
use Rattle.ring.specs.declared.Slot.{Slot}
use Rattle.ring.specs.declared.Ring.{Ring}
use Rattle.ring.specs.declared.Descriptor.{Descriptor}
use Rattle.ring.specs.declared.Found.{Found}
use Rattle.ring.specs.declared.Found.TheVariants.{Outside, NotOwned, Owned}
use Rattle.ring.specs.Slots.{place}
use Rattle.ring.specs.Status.{OWN}

-- "a byte count in bits 11-0 as two's complement (so 1 to 4,096; bits 15-12 are ignored)"
abbrev pub count_of : ℕ → ℕ
count_of word = 4096 - word % 4096

-- "four words: buffer address 15-0; status in the high byte, address 23-16 in the low; a byte count ..; MCNT"
unfoldable pub described : List ℕ → Descriptor
described bs =
    record {
      address = joined (get_or bs 0 0) (get_or bs 1 0) + 65536 * get_or bs 2 0;
      status = get_or bs 3 0;
      count = count_of (joined (get_or bs 4 0) (get_or bs 5 0));
    }

-- OWN is bit 7 of the status
unfoldable pub found_in : List ℕ → Found
found_in bs = if leb OWN (get_or bs 3 0) then Owned (described bs) else NotOwned

-- a slot's descriptor, in a memory of n bytes: its eight bytes are read whole, or it is outside
unfoldable pub look : ℕ → Ring → Slot → Bus Found
look n r i =
    if leb (place r i + 8) n
    then reads (place r i) 8 >>= (λ bs. done (found_in bs))
    else done Outside

infix 6 by◌outside:◌not_owned:◌owned:◌
-- what to do for each thing that is found
unfoldable pub by◌outside:◌not_owned:◌owned:◌ : {A : Type 0} → Found → A → A → (Descriptor → A) → A
by Outside outside: a not_owned: b owned: f = a
by NotOwned outside: a not_owned: b owned: f = b
by (Owned d) outside: a not_owned: b owned: f = f d
