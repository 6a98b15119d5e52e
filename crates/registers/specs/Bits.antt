-- The names that document 01 gives to bits.
use Rattle.std.specs.Prelude.{ℕ}

-- "CSR0, from bit 15: ERR, BABL, CERR, MISS, MERR, RINT, TINT, IDON, INTR, IENA, RXON, TXON, TDMD, STOP, STRT, INIT."
abbrev pub CSR0_ERR : ℕ
CSR0_ERR = 0x8000

abbrev pub BABL : ℕ
BABL = 0x4000

abbrev pub CERR : ℕ
CERR = 0x2000

abbrev pub MISS : ℕ
MISS = 0x1000

abbrev pub MERR : ℕ
MERR = 0x0800

abbrev pub RINT : ℕ
RINT = 0x0400

abbrev pub TINT : ℕ
TINT = 0x0200

abbrev pub IDON : ℕ
IDON = 0x0100

abbrev pub INTR : ℕ
INTR = 0x0080

abbrev pub IENA : ℕ
IENA = 0x0040

abbrev pub RXON : ℕ
RXON = 0x0020

abbrev pub TXON : ℕ
TXON = 0x0010

abbrev pub TDMD : ℕ
TDMD = 0x0008

abbrev pub STOP : ℕ
STOP = 0x0004

abbrev pub STRT : ℕ
STRT = 0x0002

abbrev pub INIT : ℕ
INIT = 0x0001

-- MODE: DTX is bit 1, and DRX bit 0
abbrev pub DTX : ℕ
DTX = 0x0002

abbrev pub DRX : ℕ
DRX = 0x0001
