-- The acts on registers: reset, read and write.
use Rattle.std.specs.Prelude.{ℕ, eqb}
use Rattle.std.specs.Prelude.{if◌then◌else◌}
use Rattle.bus.specs.Bus.{Bus, done, ◌>>=◌}
use Rattle.registers.specs.Table.{RDP, RAP, RESET, SELECT, no_register, locked, only_reads, keep}
use Rattle.answers.specs.declared.Answer.TheVariants.{Done}
use Rattle.answers.specs.Refusals.{Tested, read_tests, write_tests, unless}
use Rattle.card.specs.declared.Card.{Card}
use Rattle.card.specs.declared.Reply.{Reply}
use Rattle.card.specs.State.{fresh, with_written}
use Rattle.card.specs.Sound.{sound}
use Rattle.card.specs.Replies.{replied, refused}
use Rattle.card.specs.Registers.{register_word}
use Rattle.card.specs.Initialization.{write_csr0}

-- reset
unfoldable pub resetting : Reply
resetting = replied fresh (Done 0)

-- "A read at 14h resets the card and gives 0"; "RAP .. selects the CSR behind RDP"
unfoldable pub read_at : Card → ℕ → Reply
read_at c offset =
    if eqb offset RESET
    then replied fresh (Done 0)
    else if eqb offset RAP then replied c (Done c.written.rap) else replied c (Done (register_word c c.written.rap))

-- whether a read is refused
abbrev pub read_refusal : Card → ℕ → Tested
read_refusal c offset = read_tests (sound c) (no_register c.written.rap offset) (locked c.csr0.stop c.written.rap offset)

-- a read
unfoldable pub reading : Card → ℕ → Reply
reading c offset = unless (read_refusal c offset) (refused c) (read_at c offset)

-- a write behind RDP: CSR0 acts, the others keep their bits
unfoldable pub write_register : Card → ℕ → ℕ → Bus Card
write_register c n v =
    if eqb c.written.rap 0 then write_csr0 c n v else done (with_written c (keep c.written c.written.rap v))

-- a write at an offset; "a write [at 14h] does nothing"
unfoldable pub write_at : Card → ℕ → ℕ → ℕ → Bus Card
write_at c n offset v =
    if eqb offset RDP
    then write_register c n v
    else if eqb offset RAP then done (with_written c (keep c.written SELECT v)) else done c

-- whether a write is refused
abbrev pub write_refusal : Card → ℕ → ℕ → Tested
write_refusal c n offset =
    write_tests (sound c) n (no_register c.written.rap offset) (locked c.csr0.stop c.written.rap offset) (only_reads c.written.rap offset)

-- a write, in a memory of n bytes
unfoldable pub writing : Card → ℕ → ℕ → ℕ → Bus Reply
writing c n offset v =
    unless (write_refusal c n offset) (λ r. done (refused c r)) (write_at c n offset v >>= (λ d. done (replied d (Done 0))))
