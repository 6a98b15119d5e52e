-- "The initialization block", and the write to CSR0 that reads it.
use Rattle.std.specs.Prelude.{ℕ, ◌+◌, ◌*◌, ◌/◌, Bool, true, false, ◌&&◌, List, ◌∷◌, get_or, leb}
use Rattle.std.specs.Prelude.{if◌then◌else◌}
use Rattle.bus.specs.Bits.{bit}
use Rattle.bus.specs.Bus.{Bus, done, words, ◌>>=◌}
use Rattle.ring.specs.Loading.{from_words}
use Rattle.registers.specs.Bits.{MERR, IDON, RXON, TXON, STOP, INIT}
use Rattle.registers.specs.Csr0.{stopped, changed}
use Rattle.registers.specs.Writing.{cleared, finished}
use Rattle.card.specs.declared.Card.{Card}
use Rattle.card.specs.declared.Tried.{Tried}
use Rattle.card.specs.State.{state_of, with, with_csr0}

-- "CSR1 and the low 8 bits of CSR2 are the initialization block's address, bit 0 taken as 0."
unfoldable pub block_address : Card → ℕ
block_address c = c.written.csr1 / 2 * 2 + 65536 * c.written.csr2

-- "MODE; PADR in three; LADRF in four": the block's first eight words are the state's from MODE on, after the word that says that an
-- initialization has succeeded
unfoldable pub loaded_from : List ℕ → Card
loaded_from ws = state_of (0 ∷ (0 ∷ (0 ∷ (0 ∷ (0 ∷ (0 ∷ (1 ∷ ws)))))))

-- "RDRA low; RLEN ..; TDRA and TLEN likewise"; "Success loads these, sets both slots to 0 and sets IDON and INIT"; "INIT clears
-- STOP"
unfoldable pub succeeded : Card → List ℕ → Card
succeeded c ws =
    with (loaded_from ws) (changed c.csr0 (IDON + INIT) STOP) c.written c.missed
    (from_words (get_or ws 8 0) (get_or ws 9 0)) (from_words (get_or ws 10 0) (get_or ws 11 0))

-- "INIT and MERR are set and nothing is loaded"; MERR "always clears RXON and TXON"
unfoldable pub failed : Card → Card
failed c = with_csr0 c (changed c.csr0 (INIT + MERR) (STOP + RXON + TXON))

-- "an initialization has succeeded since reset, and this write has not just failed one": then the card may start
unfoldable pub tried : Card → Bool → Tried
tried c ready = record { card = c; ready = ready }

-- "If any of the 24 bytes is outside the memory", the initialization fails
unfoldable pub initialization : Card → ℕ → Bus Tried
initialization c n =
    if leb (block_address c + 24) n
    then (words (block_address c) 12 >>= (λ ws. done (tried (succeeded c ws) true)))
    else done (tried (failed c) false)

-- "INIT acts if STOP was set before the write"
unfoldable pub init_if_asked : Card → ℕ → ℕ → Bus Tried
init_if_asked c n v =
    if bit v INIT && c.csr0.stop then initialization c n else done (tried c c.initialized)

-- "A write to CSR0 with STOP makes it 0004h, whatever else is written .. Otherwise, in this order: a 1 in bits 14 to 8 clears
-- that bit; INIT ..; STRT ..; IENA ..; TDMD"
unfoldable pub write_csr0 : Card → ℕ → ℕ → Bus Card
write_csr0 c n v =
    if bit v STOP
    then done (with_csr0 c stopped)
    else (init_if_asked (with_csr0 c (cleared c.csr0 v)) n v
    >>= (λ t. done (with_csr0 t.card (finished t.card.csr0 t.card.mode t.ready v))))
