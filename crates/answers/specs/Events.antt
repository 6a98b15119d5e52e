-- The table of events: what each end of a walk and each outcome of a turn sets and clears in CSR0, by how much CSR112 rises, and what is
-- answered.
use Rattle.std.specs.Prelude.{ℕ, ◌+◌, Bool, leb}
use Rattle.bus.specs.Bits.{weigh}
use Rattle.registers.specs.Bits.{BABL, CERR, MISS, MERR, RINT, TINT, RXON, TXON, TDMD}
use Rattle.receive.specs.declared.Ending.{Ending}
use Rattle.receive.specs.declared.Ending.TheVariants.{Memory, Missed, Received, Cut}
use Rattle.transmit.specs.declared.Outcome.{Outcome}
use Rattle.transmit.specs.declared.Outcome.TheVariants.{Idle, OutOfMemory, Underflow, Failed, Sent}
use Rattle.answers.specs.declared.Answer.{Answer}
use Rattle.answers.specs.declared.Event.{Event}
use Rattle.answers.specs.declared.Answer.TheVariants as answers

-- an event: the bits of CSR0 that it sets and clears, by how much CSR112 rises, and the answer
abbrev pub sets : ℕ → ℕ → ℕ → Answer → Event
sets on off missed a = record { on = on; off = off; missed = missed; answer = a }

-- "outside memory, MERR", which "always clears RXON and TXON" and "answers "memory""; "OWN clear, MISS is set, CSR112 rises by one and
-- the answer is "missed""; a frame that ends or is cut, RINT
unfoldable pub arrival_event : Ending → Event
arrival_event Memory = sets MERR (RXON + TXON) 0 answers.Memory
arrival_event Missed = sets MISS 0 1 answers.Missed
arrival_event Received = sets RINT 0 0 answers.Received
arrival_event Cut = sets RINT 0 0 answers.Cut

-- TINT with every chain that is given back; "No heartbeat sets CERR on a frame handed out; 1,519 bytes or more handed out, FCS counted,
-- set BABL"
abbrev pub sent_bits : Bool → ℕ → ℕ
sent_bits noheartbeat n = TINT + weigh noheartbeat CERR + weigh (leb 1519 n) BABL

-- "Otherwise TDMD is cleared"; MERR as above; an underflow "clears TXON"
unfoldable pub turn_event : Bool → Outcome → Event
turn_event noheartbeat Idle = sets 0 TDMD 0 answers.Idle
turn_event noheartbeat OutOfMemory = sets MERR (TDMD + RXON + TXON) 0 answers.Memory
turn_event noheartbeat Underflow = sets TINT (TDMD + TXON) 0 answers.Underflow
turn_event noheartbeat Failed = sets TINT TDMD 0 answers.Failed
turn_event noheartbeat (Sent n) = sets (sent_bits noheartbeat n) TDMD 0 (answers.Sent n)
