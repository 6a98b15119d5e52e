-- The address filter: which destinations are ours.
use Rattle.std.specs.Prelude.{ℕ, zero, suc, ◌/◌, ◌%◌, ◌^◌, Bool, true, not, ◌&&◌, ◌||◌, List, get_or, replicate, eqb}
use Rattle.fcs.specs.Fcs.{hash_of}
use Rattle.std.specs.Prelude.{if◌then◌else◌}
use Rattle.bus.specs.Bits.{bit}

-- bits of MODE
abbrev pub PROM : ℕ
PROM = 0x8000

abbrev pub DRCVBC : ℕ
DRCVBC = 0x4000

abbrev pub DRCVPA : ℕ
DRCVPA = 0x2000

-- the first k bytes of two addresses are the same
abbrev pub alike : ℕ → List ℕ → List ℕ → Bool
alike zero a b = true
alike (suc k) a b = alike k a b && eqb (get_or a k 0) (get_or b k 0)

-- the address of all stations
abbrev pub broadcast : List ℕ
broadcast = replicate 6 255

-- "A destination with bit 0 of its first byte clear must equal PADR, and bit 13 (DRCVPA) clear."
unfoldable pub station : ℕ → List ℕ → List ℕ → Bool
station mode padr to = alike 6 to padr && not (bit mode DRCVPA)

-- "the LADRF bit to test": bit 0 is bit 0 of the first word
abbrev pub hashed : List ℕ → ℕ → Bool
hashed ladrf h = bit (get_or ladrf (h / 16) 0) (2 ^ (h % 16))

-- "FF-FF-FF-FF-FF-FF passes if bit 14 (DRCVBC) is clear. Any group address not yet passed takes the top six bits of the
-- reflected CRC-32 register over its six bytes .. as the LADRF bit to test."
unfoldable pub group : ℕ → List ℕ → List ℕ → Bool
group mode ladrf to = (alike 6 to broadcast && not (bit mode DRCVBC)) || hashed ladrf (hash_of to)

-- a group address has bit 0 of its first byte set
unfoldable pub addressed : ℕ → List ℕ → List ℕ → List ℕ → Bool
addressed mode padr ladrf to = if eqb (get_or to 0 0 % 2) 1 then group mode ladrf to else station mode padr to

-- "The filter takes all with PROM (MODE bit 15)."
unfoldable pub ours : ℕ → List ℕ → List ℕ → List ℕ → Bool
ours mode padr ladrf to = bit mode PROM || addressed mode padr ladrf to
