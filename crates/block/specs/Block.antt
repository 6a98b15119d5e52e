-- The state block: "a lent block of 512 bytes: bytes 508 to 511 are the FCS of the first 508, unused bytes are zero".
use Rattle.std.specs.Prelude.{ℕ, suc, ◌-◌, ◌*◌, Bool, true, ◌&&◌, List, [], ◌∷◌, ◌++◌, length, get_or, replicate, eqb}
use Rattle.std.specs.Prelude.{if◌then◌else◌, Option, Some, None}
use Rattle.fcs.specs.Fcs.{fcs_of, right_fcs}
use Rattle.bus.specs.Words.{bytes_of, words_at}
use Rattle.card.specs.declared.Card.{Card}
use Rattle.card.specs.State.{WORDS, state_words, state_of}
use Rattle.card.specs.Sound.{sound}

-- a block's bytes, and those that the check is made of
abbrev pub BYTES : ℕ
BYTES = 512

abbrev pub CHECKED : ℕ
CHECKED = 508

-- words in their order, each low byte first
unfoldable pub word_bytes : List ℕ → List ℕ
word_bytes [] = []
word_bytes (w ∷ ws) = bytes_of 2 w ++ word_bytes ws

-- "unused bytes are zero": those behind the state's words
unfoldable pub unused : List ℕ
unused = replicate (CHECKED - 2 * WORDS) 0

-- the bytes that the check is made of
unfoldable pub body_of : Card → List ℕ
body_of c = word_bytes (state_words c) ++ unused

-- the block of a state
unfoldable pub block_of : Card → List ℕ
block_of c = body_of c ++ bytes_of 4 (fcs_of (body_of c))

-- the state that a block's words say
unfoldable pub state_in : List ℕ → Card
state_in b = state_of (words_at b 0 WORDS)

-- from place i on a list has these bytes
unfoldable pub holds : List ℕ → ℕ → List ℕ → Bool
holds b i [] = true
holds b i (x ∷ xs) = eqb (get_or b i 0) x && holds b (suc i) xs

-- 9: "block not 512 bytes, check wrong, or not the block of a sound state"
unfoldable pub opens : List ℕ → Bool
opens b = eqb (length b) BYTES && right_fcs b && holds b 0 (body_of (state_in b)) && sound (state_in b)

-- the state of a block that opens, and none of any other
unfoldable pub opened : List ℕ → Option Card
opened b = if opens b then Some (state_in b) else None
