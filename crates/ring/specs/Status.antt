-- The bits that a status byte of either ring has.
use Rattle.std.specs.Prelude.{ℕ, ◌%◌}

-- "Receive status, bit 7 to 0: OWN, ERR, FRAM, OFLO, CRC, BUFF, STP, ENP"; "Transmit status: OWN, ERR, ADD_FCS, MORE, ONE, DEF,
-- STP, ENP"
abbrev pub OWN : ℕ
OWN = 0x80

abbrev pub ERR : ℕ
ERR = 0x40

abbrev pub STP : ℕ
STP = 0x02

abbrev pub ENP : ℕ
ENP = 0x01

-- "only OWN cleared"
unfoldable pub without_own : ℕ → ℕ
without_own s = s % OWN
