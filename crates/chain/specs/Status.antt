-- The status byte of a transmit descriptor.
use Rattle.std.specs.Prelude.{ℕ}

-- "Transmit status: OWN, ERR, ADD_FCS, MORE, ONE, DEF, STP, ENP."
abbrev pub ADD_FCS : ℕ
ADD_FCS = 0x20

abbrev pub MORE : ℕ
MORE = 0x10

abbrev pub ONE : ℕ
ONE = 0x08

abbrev pub DEF : ℕ
DEF = 0x04
