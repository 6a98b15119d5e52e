-- "Numbers for a refused call": each with its number, and the tests, in the table's order, "each only where its input exists".
use Rattle.std.specs.Prelude.{ℕ, Bool, not, List, [], ◌∷◌, ltb, Result, Ok, Err}
use Rattle.std.specs.Prelude.{if◌then◌else◌}
use Rattle.answers.specs.declared.Refusal.{Refusal}
use Rattle.answers.specs.declared.Refusal.TheVariants.{LargeMemory, LongFrame, ExtraBits, ShortSlice, BadReport, Locked, NoRegister, OnlyReads, Unsound}

-- "memory above 16,777,216 bytes", "frame above 4,095 bytes", "extra bits above 7", "outgoing slice under 4,100 bytes", "wire report
-- above 5"
abbrev pub MOST_MEMORY : ℕ
MOST_MEMORY = 16777216

abbrev pub LONGEST_FRAME : ℕ
LONGEST_FRAME = 4095

abbrev pub MOST_EXTRA : ℕ
MOST_EXTRA = 7

abbrev pub LEAST_SLICE : ℕ
LEAST_SLICE = 4100

abbrev pub LAST_REPORT : ℕ
LAST_REPORT = 5

-- the table's number of each
abbrev pub refusal_number : Refusal → ℕ
refusal_number LargeMemory = 1
refusal_number LongFrame = 2
refusal_number ExtraBits = 3
refusal_number ShortSlice = 4
refusal_number BadReport = 5
refusal_number Locked = 6
refusal_number NoRegister = 7
refusal_number OnlyReads = 8
refusal_number Unsound = 9

-- whether a call is refused
abbrev pub Tested : Type 0
Tested = Result (Unit {0}) Refusal

-- a test, and the refusal that it gives where it refuses
pub record Test : Type 0 where
  pub refusal : Refusal
  pub refuses : Bool

infix 70 ◌refuses_if◌
abbrev pub ◌refuses_if◌ : Refusal → Bool → Test
r refuses_if b = record { refusal = r; refuses = b }

-- the refusal of the first test that refuses, if one does
unfoldable pub first : List Test → Tested
first [] = Ok tt
first (t ∷ ts) = if t.refuses then Err t.refusal else first ts

-- a read, by whether the state is sound, there is no such register, and it is locked
unfoldable pub read_tests : Bool → Bool → Bool → Tested
read_tests sound nowhere locked =
    first (Unsound refuses_if not sound ∷ (NoRegister refuses_if nowhere ∷ (Locked refuses_if locked ∷ [])))

-- a write, with a memory of n bytes
unfoldable pub write_tests : Bool → ℕ → Bool → Bool → Bool → Tested
write_tests sound n nowhere locked only =
    first
    (Unsound refuses_if not sound
    ∷ (LargeMemory refuses_if ltb MOST_MEMORY n
    ∷ (NoRegister refuses_if nowhere ∷ (Locked refuses_if locked ∷ (OnlyReads refuses_if only ∷ [])))))

-- an arrival of a frame of so many bytes
unfoldable pub arrive_tests : Bool → ℕ → ℕ → ℕ → Tested
arrive_tests sound n frame extra =
    first
    (Unsound refuses_if not sound
    ∷ (LargeMemory refuses_if ltb MOST_MEMORY n
    ∷ (LongFrame refuses_if ltb LONGEST_FRAME frame ∷ (ExtraBits refuses_if ltb MOST_EXTRA extra ∷ []))))

-- a turn, with an outgoing slice of so many bytes
unfoldable pub turn_tests : Bool → ℕ → ℕ → ℕ → Tested
turn_tests sound n out report =
    first
    (Unsound refuses_if not sound
    ∷ (LargeMemory refuses_if ltb MOST_MEMORY n
    ∷ (ShortSlice refuses_if ltb out LEAST_SLICE ∷ (BadReport refuses_if ltb LAST_REPORT report ∷ []))))

-- one result where nothing is refused, and another by the refusal
unfoldable pub unless {ℓ} : {A : Type ℓ} → Tested → (Refusal → A) → A → A
unless (Ok _) refused result = result
unless (Err r) refused result = refused r
