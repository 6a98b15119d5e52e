-- What is still to come of a register while the bytes are folded: words that wait to be put on the bytes that follow.
use Rattle.std.specs.Prelude.{ℕ, ◌+◌, ◌*◌, ◌^◌, List, [], ◌∷◌, length}
use Rattle.std.specs.Int.Bits.{bit_xor}
use Rattle.fcs.specs.declared.fold.Waiting.{Waiting}
use Rattle.bus.specs.Words.{little}
use Rattle.fcs.specs.Fcs.{shifts}

-- the number that words of 64 bits stand for, low word first
unfoldable pub words : List ℕ → ℕ
words [] = 0
words (w ∷ ws) = words ws * 2 ^ 64 + w

-- the register once the bytes bs, with the words ws put on them, have been shifted out
unfoldable pub after : List ℕ → List ℕ → ℕ
after ws bs = shifts (length bs * 8) (bit_xor (words ws) (little bs))

-- .. with the five words of a value of the code
abbrev pub ahead : Waiting → List ℕ → ℕ
ahead p bs = after (p.a ∷ p.b ∷ p.c ∷ p.d ∷ p.e ∷ []) bs
