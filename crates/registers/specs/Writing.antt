-- A write of v to CSR0 without STOP, "in this order".
use Rattle.std.specs.Prelude.{ℕ, ◌+◌, ◌*◌, ◌/◌, ◌%◌, Bool, not, ◌&&◌}
use Rattle.std.specs.Prelude.{if◌then◌else◌}
use Rattle.registers.specs.declared.Csr0.{Csr0}
use Rattle.bus.specs.Bits.{bit, weigh}
use Rattle.registers.specs.Bits.{IENA, RXON, TXON, TDMD, STOP, STRT, DRX, DTX}
use Rattle.registers.specs.Csr0.{changed}

-- "a 1 in bits 14 to 8 clears that bit"
unfoldable pub cleared : Csr0 → ℕ → Csr0
cleared s v = changed s 0 (v % 0x8000 / 0x100 * 0x100)

-- "STRT acts if STRT is clear", and the card is ready to start; "it clears STOP and sets STRT, RXON unless DRX .. and TXON
-- unless DTX"
unfoldable pub started : Csr0 → ℕ → Bool → ℕ → Csr0
started s mode ready v =
    if bit v STRT && not s.strt && ready
    then changed s (STRT + weigh (not (bit mode DRX)) RXON + weigh (not (bit mode DTX)) TXON) STOP
    else s

-- "IENA becomes bit 6, or 0 if STOP is still set"
unfoldable pub enabled : Csr0 → ℕ → Csr0
enabled s v = changed s (weigh (bit v IENA && not s.stop) IENA) IENA

-- "TDMD is set if written and TXON is set"
unfoldable pub demanded : Csr0 → ℕ → Csr0
demanded s v = changed s (weigh (bit v TDMD && s.txon) TDMD) 0

-- STRT, IENA and TDMD, in this order
unfoldable pub finished : Csr0 → ℕ → Bool → ℕ → Csr0
finished s mode ready v = demanded (enabled (started s mode ready v) v) v
