-- What the five entries hand back, on numbers, slices and the block.
use Rattle.std.specs.Prelude.{ℕ, ◌+◌, ◌*◌, ◌%◌, List, length, eqb}
use Rattle.std.specs.Prelude.{if◌then◌else◌}
use Rattle.bus.specs.Bits.{weigh}
use Rattle.bus.specs.Bus.{Bus, done, Handed, empty_handed, ◌>>=◌}
use Rattle.transmit.specs.declared.Report.{Report}
use Rattle.answers.specs.declared.Refusal.TheVariants.{Unsound}
use Rattle.answers.specs.Refusals.{refusal_number}
use Rattle.answers.specs.Answers.{answer_number, answer_word, answer_value, answer_length}
use Rattle.card.specs.declared.Reply.{Reply}
use Rattle.card.specs.Acts.{resetting, reading, writing}
use Rattle.card.specs.Arrival.{arriving}
use Rattle.card.specs.Turning.{turning}
use Rattle.block.specs.Block.{BYTES, block_of, state_in, opens}

-- number, word, value, length and line in one number: 8, 8, 16, 16 bits and one
unfoldable pub packed : Reply → ℕ
packed r =
    answer_number r.answer + 0x100 * answer_word r.answer + 0x10000 * answer_value r.answer + 0x100000000 * answer_length r.answer
    + weigh r.line 0x1000000000000

-- the number handed back, and the block
pub record Given : Type 0 where
  pub result : ℕ
  pub block : List ℕ

-- "State, .. and block keep every byte" of a refused call; else the block is that of the state handed back
unfoldable pub given : List ℕ → Reply → Given
given b r = record { result = packed r; block = if eqb (answer_number r.answer) 0 then block_of r.card else b }

-- 9: "nothing but the number", and the line "is reported low"
unfoldable pub shut : List ℕ → Given
shut b = record { result = refusal_number Unsound; block = b }

-- "Reset alone asks only for the block's length (else 9) and writes a fresh block over any content."
unfoldable pub reset_entry : List ℕ → Given
reset_entry b = if eqb (length b) BYTES then given b resetting else shut b

unfoldable pub read_entry : List ℕ → ℕ → Given
read_entry b offset = if opens b then given b (reading (state_in b) offset) else shut b

-- a word access: of a value above 16 bits the low 16 are written
unfoldable pub write_entry : List ℕ → ℕ → ℕ → ℕ → Bus Given
write_entry b n offset value =
    if opens b
    then (writing (state_in b) n offset (value % 65536) >>= (λ r. done (given b r)))
    else done (shut b)

unfoldable pub arrive_entry : List ℕ → ℕ → List ℕ → ℕ → Bus Given
arrive_entry b n f extra =
    if opens b then (arriving (state_in b) n f extra >>= (λ r. done (given b r))) else done (shut b)

unfoldable pub turn_entry : List ℕ → ℕ → ℕ → Report → Bus (Handed Given)
turn_entry b n out w =
    if opens b
    then
    (turning (state_in b) n out w >>= (λ h. done (record { answer = given b h.answer; frame = h.frame })))
    else done (empty_handed (shut b))
