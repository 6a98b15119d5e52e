-- The card's state: as words, after reset, and with what a call changes.
use Rattle.std.specs.Prelude.{ℕ, ◌%◌, Bool, List, [], ◌∷◌, ◌++◌, get_or, replicate, eqb}
use Rattle.bus.specs.Bits.{weigh}
use Rattle.bus.specs.Words.{joined, bytes_of}
use Rattle.ring.specs.declared.Ring.{Ring}
use Rattle.ring.specs.Slots.{ring_words, ring_of}
use Rattle.registers.specs.declared.Csr0.{Csr0}
use Rattle.registers.specs.declared.Written.{Written}
use Rattle.registers.specs.Bits.{STOP}
use Rattle.registers.specs.Csr0.{word, csr0_of, line_of}
use Rattle.card.specs.declared.Card.{Card}

-- how many words of sixteen bits the state is
abbrev pub WORDS : ℕ
WORDS = 23

-- the state as words: a row for each word, in the order in which the state block holds them
unfoldable pub state_words : Card → List ℕ
state_words c =
    word c.csr0 c.written.csr3
    ∷ (c.written.rap
    ∷ (c.written.csr1
    ∷ (c.written.csr2
    ∷ (c.written.csr3
    ∷ (c.missed
    ∷ (weigh c.initialized 1
    ∷ (c.mode
    ∷ (joined (get_or c.address 0 0) (get_or c.address 1 0)
    ∷ (joined (get_or c.address 2 0) (get_or c.address 3 0)
    ∷ (joined (get_or c.address 4 0) (get_or c.address 5 0)
    ∷ (get_or c.filter 0 0
    ∷ (get_or c.filter 1 0
    ∷ (get_or c.filter 2 0 ∷ (get_or c.filter 3 0 ∷ (ring_words c.receive ++ ring_words c.transmit)))))))))))))))

-- the state that words say. PADR: "The low byte of PADR's first word is the address's first byte"; LADRF's first word is the filter's
unfoldable pub state_of : List ℕ → Card
state_of ws =
    record {
      csr0 = csr0_of (get_or ws 0 0);
      written = record { rap = get_or ws 1 0; csr1 = get_or ws 2 0; csr2 = get_or ws 3 0; csr3 = get_or ws 4 0 };
      missed = get_or ws 5 0;
      initialized = eqb (get_or ws 6 0 % 2) 1;
      mode = get_or ws 7 0;
      address = bytes_of 2 (get_or ws 8 0) ++ (bytes_of 2 (get_or ws 9 0) ++ bytes_of 2 (get_or ws 10 0));
      filter = get_or ws 11 0 ∷ (get_or ws 12 0 ∷ (get_or ws 13 0 ∷ (get_or ws 14 0 ∷ [])));
      receive = ring_of (get_or ws 15 0) (get_or ws 16 0) (get_or ws 17 0) (get_or ws 18 0);
      transmit = ring_of (get_or ws 19 0) (get_or ws 20 0) (get_or ws 21 0) (get_or ws 22 0);
    }

-- "After reset CSR0 is 0004h, RAP and all else are 0, and no initialization has been done."
unfoldable pub fresh : Card
fresh = state_of (STOP ∷ replicate 22 0)

-- the card with what a call can change: the one definition, beside `state_of`, that lists the fields
unfoldable pub with : Card → Csr0 → Written → ℕ → Ring → Ring → Card
with c s w missed rx tx =
    record {
      csr0 = s;
      written = w;
      missed = missed;
      initialized = c.initialized;
      mode = c.mode;
      address = c.address;
      filter = c.filter;
      receive = rx;
      transmit = tx;
    }

-- .. of which only CSR0 changes, or only the written registers
abbrev pub with_csr0 : Card → Csr0 → Card
with_csr0 c s = with c s c.written c.missed c.receive c.transmit

abbrev pub with_written : Card → Written → Card
with_written c w = with c c.csr0 w c.missed c.receive c.transmit

-- the level of the interrupt line
unfoldable pub line : Card → Bool
line c = line_of c.csr0 c.written.csr3
