-- A ring's slots, and the counters by which registers show them.
use Rattle.std.specs.Prelude.{ℕ, ◌+◌, ◌-◌, ◌*◌, ◌/◌, ◌%◌, List, [], ◌∷◌, ltb}
use Rattle.std.specs.Prelude.{if◌then◌else◌}
use Rattle.ring.specs.declared.Slot.{Slot}
use Rattle.ring.specs.declared.Counter.{Counter}
use Rattle.ring.specs.declared.Ring.{Ring}

-- how many slots a ring has
unfoldable pub slots : Ring → ℕ
slots r = r.length

-- "With N slots, slot i shows as 65,536 - N + i", in a register of 16 bits: where there are no slots yet it shows 0
abbrev pub slot_shown : Ring → Slot → Counter
slot_shown r i = record { 0 = (65536 - slots r + i.0) % 65536 }

-- "a length shows as 65,536 - N"
abbrev pub length_shown : Ring → Counter
length_shown r = record { 0 = (65536 - slots r) % 65536 }

-- the slot after a slot: the ring's last is followed by its first
unfoldable pub next : Ring → Slot → Slot
next r i = if ltb (i.0 + 1) (slots r) then record { 0 = i.0 + 1 } else record { 0 = 0 }

-- where the descriptor of a slot stands
unfoldable pub place : Ring → Slot → ℕ
place r i = r.base + 8 * i.0

-- the ring with another current slot
abbrev pub moved : Ring → Slot → Ring
moved r i = record { base = r.base; length = r.length; slot = i }

-- a ring as four words of sixteen bits, and back: base low and high, length, slot
abbrev pub ring_words : Ring → List ℕ
ring_words r = r.base % 65536 ∷ (r.base / 65536 % 65536 ∷ (r.length ∷ (r.slot.0 ∷ [])))

abbrev pub ring_of : ℕ → ℕ → ℕ → ℕ → Ring
ring_of low high n i = record { base = low + 65536 * high; length = n; slot = record { 0 = i } }
