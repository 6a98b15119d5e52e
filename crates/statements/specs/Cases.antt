-- "Twelve cases for the proof table": each with what the definitions give and what document 01 says.
use Rattle.std.specs.Prelude.{ℕ, false, List, [], ◌∷◌, ◌++◌, length, get_or, replicate}
use Rattle.fcs.specs.Fcs.{fcs_of}
use Rattle.bus.specs.Bits.{weigh}
use Rattle.bus.specs.Words.{bytes_of}
use Rattle.bus.specs.Bus.{run}
use Rattle.ring.specs.declared.Ring.{Ring}
use Rattle.ring.specs.Slots.{slot_shown, length_shown}
use Rattle.ring.specs.Loading.{from_words}
use Rattle.ring.specs.Descriptor.{count_of}
use Rattle.registers.specs.Csr0.{word, stopped, changed}
use Rattle.registers.specs.Table.{RDP}
use Rattle.card.specs.declared.Card.{Card}
use Rattle.card.specs.declared.Reply.{Reply}
use Rattle.card.specs.State.{state_of, with, fresh}
use Rattle.answers.specs.Answers.{RECEIVED, CUT, SENT, FAILED, answer_word}
use Rattle.card.specs.Acts.{writing}
use Rattle.card.specs.Arrival.{arriving}
use Rattle.card.specs.Turning.{turning}

-- the cases' letters
pub data Letter : Type 0 where
  A B C D E F G H I J K L : Letter

-- a case: the numbers that it gives, and those that it should
pub record Case : Type 0 where
  pub letter : Letter
  pub gives : List ℕ
  pub should : List ℕ

-- CSR0 and the line of a reply
unfoldable pub shown : Reply → List ℕ
shown r = word r.card.csr0 r.card.written.csr3 ∷ (weigh r.line 1 ∷ [])

-- a write to CSR0, on a memory
unfoldable pub wrote : Card → List ℕ → ℕ → Reply
wrote c m v = (run (writing c (length m) RDP v) m).answer

-- a good block at address 0: MODE 0 and rings of one slot
unfoldable pub good_block : List ℕ
good_block = replicate 24 0

-- a ring of so many slots at address 0
unfoldable pub ring_at_zero : ℕ → Ring
ring_at_zero slots = record { base = 0; length = slots; slot = record { 0 = 0 } }

-- a running card with PROM whose rings lie at address 0: STRT, RXON and TXON are set, an initialization has succeeded, and MODE is 8000h
unfoldable pub running : ℕ → Card
running slots =
    with (state_of (0 ∷ (0 ∷ (0 ∷ (0 ∷ (0 ∷ (0 ∷ (1 ∷ (0x8000 ∷ [])))))))))
    (changed stopped 0x0032 0x0004) fresh.written 0 (ring_at_zero slots) (ring_at_zero slots)

-- a descriptor: address and status below 256, and a byte count in two bytes
unfoldable pub descriptor_bytes : ℕ → ℕ → ℕ → ℕ → List ℕ → List ℕ
descriptor_bytes address status low high rest =
    address ∷ (0 ∷ (0 ∷ (status ∷ (low ∷ (high ∷ (0 ∷ (0 ∷ rest)))))))

-- two descriptors of 200 bytes (F38h), the second with a status, and their buffers
unfoldable pub two_buffers : ℕ → List ℕ
two_buffers status = descriptor_bytes 16 0x80 0x38 0xFF (descriptor_bytes 216 status 0x38 0xFF (replicate 400 0))

-- a frame of 300 bytes with a good FCS
unfoldable pub frame300 : List ℕ
frame300 = replicate 296 0 ++ bytes_of 4 (fcs_of (replicate 296 0))

-- the bytes of a memory at some places
unfoldable pub bytes_at : List ℕ → List ℕ → List ℕ
bytes_at m [] = []
bytes_at m (a ∷ at) = get_or m a 0 ∷ bytes_at m at

-- the answer's word and some bytes of memory, after a frame arrived
unfoldable pub arrived : ℕ → List ℕ → List ℕ → List ℕ → List ℕ
arrived slots m f at =
    let e = run (arriving (running slots) (length m) f 0) m in
    answer_word e.answer.answer ∷ bytes_at e.memory at

-- .. and after a turn with a wire report, of a ring of one slot
unfoldable pub sent : ℕ → List ℕ → List ℕ → List ℕ
sent report m at =
    let e = run (turning (running 1) (length m) 4100 (record { result = report; deferred = false; noheartbeat = false })) m in
    answer_word e.answer.answer.answer ∷ bytes_at e.memory at

-- one descriptor with STP and ENP, of 4 bytes (FFCh)
unfoldable pub one_to_send : List ℕ
one_to_send = descriptor_bytes 8 0x83 0xFC 0xFF (replicate 4 7)

-- a case with its letter
abbrev case : Letter → List ℕ → List ℕ → Case
case l g s = record { letter = l; gives = g; should = s }

-- the list, A to L
unfoldable pub cases : List Case
cases =
    case A (count_of 0x000 ∷ []) (4096 ∷ [])
    ∷ (case B (count_of 0xFFF ∷ []) (1 ∷ [])
    ∷ (case C (count_of 0xA12 ∷ []) (1518 ∷ [])
    ∷ (case D ((slot_shown (ring_at_zero 16) (record { 0 = 0 })).0 ∷ ((slot_shown (ring_at_zero 16) (record { 0 = 15 })).0 ∷ [])) (0xFFF0 ∷ (0xFFFF ∷ []))
    ∷ (case E ((slot_shown (ring_at_zero 1) (record { 0 = 0 })).0 ∷ ((length_shown (ring_at_zero 1)).0 ∷ [])) (0xFFFF ∷ (0xFFFF ∷ []))
    ∷ (case F ((from_words 0x2345 0x4001).base ∷ ((from_words 0x2345 0x4001).length ∷ [])) (0x012340 ∷ (4 ∷ []))
    ∷ (case G (shown (wrote fresh good_block 0x0001)) (0x0181 ∷ (0 ∷ []))
    ∷ (case H (shown (wrote (wrote fresh good_block 0x0001).card good_block 0x0142)) (0x0073 ∷ (0 ∷ []))
    ∷ (case I (shown (wrote fresh [] 0x0041)) (0x88C1 ∷ (1 ∷ []))
    ∷ (case J
    (arrived 2 (two_buffers 0x80) frame300 (3 ∷ (11 ∷ (14 ∷ (15 ∷ [])))) ++ arrived 2 (two_buffers 0x00) frame300 (3 ∷ []))
    (RECEIVED ∷ (0x02 ∷ (0x01 ∷ (0x2C ∷ (0x01 ∷ (CUT ∷ (0x46 ∷ [])))))))
    ∷ (case K (arrived 2 (two_buffers 0x80) (replicate 64 0) (3 ∷ [])) (RECEIVED ∷ (0x4B ∷ []))
    ∷ (case L
    (sent 1 one_to_send (3 ∷ []) ++ sent 3 one_to_send (3 ∷ (6 ∷ (7 ∷ []))))
    (SENT ∷ (0x0B ∷ (FAILED ∷ (0x43 ∷ (0x00 ∷ (0x04 ∷ []))))))
    ∷ [])))))))))))
