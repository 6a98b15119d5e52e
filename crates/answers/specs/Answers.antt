-- What a call answers, by this paper's numbers: the table's number or 0, a word's number or 0, a read's value or 0, the length sent or 0.
use Rattle.std.specs.Prelude.{ℕ}
use Rattle.answers.specs.declared.Answer.{Answer}
use Rattle.answers.specs.declared.Answer.TheVariants.{Refused, Done, Off, Runt, NotOurs, Missed, Received, Cut, Memory, Idle, Underflow, Failed, Sent}
use Rattle.answers.specs.Refusals.{refusal_number}

-- the words of an answer have numbers too: 0 stands for a refusal
abbrev pub DONE : ℕ
DONE = 1

abbrev pub OFF : ℕ
OFF = 2

abbrev pub RUNT : ℕ
RUNT = 3

abbrev pub NOT_OURS : ℕ
NOT_OURS = 4

abbrev pub MISSED : ℕ
MISSED = 5

abbrev pub RECEIVED : ℕ
RECEIVED = 6

abbrev pub CUT : ℕ
CUT = 7

abbrev pub MEMORY : ℕ
MEMORY = 8

abbrev pub IDLE : ℕ
IDLE = 9

abbrev pub UNDERFLOW : ℕ
UNDERFLOW = 10

abbrev pub FAILED : ℕ
FAILED = 11

abbrev pub SENT : ℕ
SENT = 12

-- "No number is given otherwise."
abbrev pub answer_number : Answer → ℕ
answer_number (Refused r) = refusal_number r
answer_number _ = 0

-- a refusal gives "number, and value 0 for a read", and no word
abbrev pub answer_word : Answer → ℕ
answer_word (Refused r) = 0
answer_word (Done v) = DONE
answer_word Off = OFF
answer_word Runt = RUNT
answer_word NotOurs = NOT_OURS
answer_word Missed = MISSED
answer_word Received = RECEIVED
answer_word Cut = CUT
answer_word Memory = MEMORY
answer_word Idle = IDLE
answer_word Underflow = UNDERFLOW
answer_word Failed = FAILED
answer_word (Sent n) = SENT

-- a register call that is done: a read has its value
abbrev pub answer_value : Answer → ℕ
answer_value (Done v) = v
answer_value _ = 0

-- ""sent" with the length handed out"
abbrev pub answer_length : Answer → ℕ
answer_length (Sent n) = n
answer_length _ = 0
