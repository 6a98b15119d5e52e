-- Numbers as bytes, "little-endian": the low byte comes first.
use Rattle.std.specs.Prelude.{ℕ, zero, suc, ◌+◌, ◌*◌, ◌/◌, ◌%◌, List, [], ◌∷◌, ◌++◌, length, drop, get_or}
use Rattle.std.proofs.lemmas.List.Edits.{sets}

-- the word of two bytes
abbrev pub joined : ℕ → ℕ → ℕ
joined low high = low + 256 * high

-- the number that bytes make
unfoldable pub little : List ℕ → ℕ
little [] = 0
little (b ∷ bs) = b + 256 * little bs

-- the k low bytes of a number
unfoldable pub bytes_of : ℕ → ℕ → List ℕ
bytes_of zero x = []
bytes_of (suc k) x = x % 256 ∷ bytes_of k (x / 256)

-- the bytes that a memory has from an address on
unfoldable pub part : List ℕ → ℕ → ℕ → List ℕ
part m a zero = []
part m a (suc k) = get_or m a 0 ∷ part m (suc a) k

-- the words that a memory has from an address on
unfoldable pub words_at : List ℕ → ℕ → ℕ → List ℕ
words_at m a zero = []
words_at m a (suc k) = joined (get_or m a 0) (get_or m (suc a) 0) ∷ words_at m (suc (suc a)) k

-- a slice after bytes were written into it from a place on
unfoldable pub overwritten : List ℕ → ℕ → List ℕ → List ℕ
overwritten out at bs = sets out at bs

-- a slice that bytes fill from its start: no other byte of it changes
abbrev pub filled : List ℕ → List ℕ → List ℕ
filled bs out = bs ++ drop (length bs) out
