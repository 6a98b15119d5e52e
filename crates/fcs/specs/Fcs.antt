-- The frame check sequence of IEEE 802.3, bit by bit: what every contract of this crate says.
-- A list of bytes is a list of numbers below 256; the definitions do not ask for it.
use Rattle.std.specs.Prelude.{ℕ, zero, suc, ◌-◌, ◌/◌, ◌%◌, Bool, true, false, List, [], ◌∷◌, length, take, drop, leb, eqb}
use Rattle.std.specs.Int.Bits.{bit_xor}
use Rattle.bus.specs.Words.{little}

-- the polynomial EDB88320h, lowest power at the top, comes in when a one falls out
unfoldable pub fallen : ℕ → ℕ
fallen zero = 0
fallen (suc n) = 0xEDB88320

-- the register moves one bit towards its low end
unfoldable pub shift : ℕ → ℕ
shift c = bit_xor (fallen (c % 2)) (c / 2)

-- .. and n bits
unfoldable pub shifts : ℕ → ℕ → ℕ
shifts zero c = c
shifts (suc n) c = shifts n (shift c)

-- a byte enters at the low end
unfoldable pub enter : ℕ → ℕ → ℕ
enter c b = shifts 8 (bit_xor b c)

-- the register after some bytes, from c on
unfoldable pub register : ℕ → List ℕ → ℕ
register c [] = c
register c (b ∷ bs) = register (enter c b) bs

-- the register over some bytes: all ones at the start, not inverted
unfoldable pub register_of : List ℕ → ℕ
register_of bs = register 0xFFFFFFFF bs

-- the FCS: the register inverted
unfoldable pub fcs_of : List ℕ → ℕ
fcs_of bs = 0xFFFFFFFF - register_of bs

-- both of two tests
unfoldable pub both : Bool → Bool → Bool
both true b = b
both false b = false

-- the last four bytes are the FCS of what stands before; under four bytes there is none
unfoldable pub right_fcs : List ℕ → Bool
right_fcs f = both (leb 4 (length f)) (eqb (little (drop (length f - 4) f)) (fcs_of (take (length f - 4) f)))

-- document 01's hash of an address: the top six bits of the register over its bytes
unfoldable pub hash_of : List ℕ → ℕ
hash_of a = register_of a / 0x4000000
