-- "Registers": what each of the table shows.
use Rattle.std.specs.Prelude.{ℕ, ◌+◌, ◌-◌, ◌*◌, ◌/◌, ◌%◌, get_or, eqb, ltb}
use Rattle.std.specs.Prelude.{if◌then◌else◌}
use Rattle.bus.specs.Words.{joined}
use Rattle.ring.specs.Slots.{slot_shown, length_shown}
use Rattle.registers.specs.Csr0.{word}
use Rattle.card.specs.declared.Card.{Card}

-- CSR0 to CSR3
unfoldable pub control_word : Card → ℕ → ℕ
control_word c r =
    if eqb r 0 then word c.csr0 c.written.csr3 else if eqb r 1 then c.written.csr1 else if eqb r 2 then c.written.csr2 else c.written.csr3

-- "CSR8 to 15 (filter, address, mode)"
unfoldable pub station_word : Card → ℕ → ℕ
station_word c r =
    if ltb r 12
    then get_or c.filter (r - 8) 0
    else if ltb r 15
    then joined (get_or c.address (2 * (r - 12)) 0) (get_or c.address (2 * (r - 12) + 1) 0)
    else c.mode

-- "24/25 and 30/31 (ring bases)"
unfoldable pub base_word : Card → ℕ → ℕ
base_word c r =
    if eqb r 24
    then c.receive.base % 65536
    else if eqb r 25
    then c.receive.base / 65536
    else if eqb r 30
    then c.transmit.base % 65536
    else c.transmit.base / 65536

-- "72/74 and 76/78 (counters and lengths)"
unfoldable pub counter_word : Card → ℕ → ℕ
counter_word c r =
    if eqb r 72
    then (slot_shown c.receive c.receive.slot).0
    else if eqb r 74
    then (slot_shown c.transmit c.transmit.slot).0
    else if eqb r 76
    then (length_shown c.receive).0
    else (length_shown c.transmit).0

-- "88/89 (chip ID), 112 (missed frames, ..)"; "CSR88 is 3003h, CSR89 is 0000h"
unfoldable pub other_word : Card → ℕ → ℕ
other_word c r = if eqb r 88 then 0x3003 else if eqb r 112 then c.missed else 0

-- what a register that there is shows
unfoldable pub register_word : Card → ℕ → ℕ
register_word c r =
    if ltb r 8
    then control_word c r
    else if ltb r 16
    then station_word c r
    else if ltb r 32 then base_word c r else if ltb r 80 then counter_word c r else other_word c r
