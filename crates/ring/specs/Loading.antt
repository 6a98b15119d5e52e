-- Rings before initialization, after it, and between.
use Rattle.std.specs.Prelude.{ℕ, ◌+◌, ◌*◌, ◌/◌, ◌%◌, ◌^◌, Bool, ◌&&◌, ◌||◌, eqb, ltb}
use Rattle.ring.specs.declared.Ring.{Ring}
use Rattle.ring.specs.Slots.{slots}

-- a ring before initialization
abbrev pub none : Ring
none = record { base = 0; length = 0; slot = record { 0 = 0 } }

-- "RDRA low; RLEN in bits 15-13 with RDRA 23-16 in bits 7-0"; "Slots are 2 to the power of the three bits; a base's low
-- three bits are taken as 0", and the slot is 0
unfoldable pub from_words : ℕ → ℕ → Ring
from_words low high =
    record { base = low / 8 * 8 + 65536 * (high % 256); length = 2 ^ (high / 8192); slot = record { 0 = 0 } }

-- "a base's low three bits are taken as 0", and it has 24 bits
abbrev pub kept_by_base : ℕ → ℕ
kept_by_base b = b % 0x1000000 / 8 * 8

-- "a ring has 1, 2, 4, 8, 16, 32, 64 or 128 slots"
abbrev pub is_length : ℕ → Bool
is_length n = eqb n 1 || eqb n 2 || eqb n 4 || eqb n 8 || eqb n 16 || eqb n 32 || eqb n 64 || eqb n 128

-- "rings and slots are 0"
abbrev pub unloaded : Ring → Bool
unloaded r = eqb r.base 0 && eqb r.length 0 && eqb r.slot.0 0

-- "each ring has one of the eight lengths and its slot lies in it"; "bits that the registers below drop are 0"
unfoldable pub loaded : Ring → Bool
loaded r = is_length r.length && ltb r.slot.0 (slots r) && eqb (kept_by_base r.base) r.base
