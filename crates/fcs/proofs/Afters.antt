-- What is still to come of the register, a word of eight bytes further on.
-- Assumes nothing.
use mathlib.Core.Path.{◌≡◌, sym, ap, ap₂, ◌∙◌, subst₂}
use mathlib.Core.List.{List, [], ◌∷◌, ◌++◌}
use Prim.Native.Nat.{ℕ, ◌+◌, ◌*◌, ◌^◌, ◌≤◌, ◌<◌}
use native.Mathlib.Nat.{zero-add}
use native.Mathlib.Omega.{arith}
use lib.ListN.{length, length-append}
use lib.Bits.{bit_xor, xor_block, xor_lt}
use Rattle.std.specs.Int.{sum_through, byte_worth}
use Rattle.std.specs.Prelude.{slice_index}
use Rattle.bus.specs.Words.{little}
use Rattle.fcs.specs.Fcs.{shifts, register, register_of}
use Rattle.fcs.specs.Waiting.{words, after}
use Rattle.fcs.proofs.Xor.{xor, assoc, comm}
use Rattle.fcs.proofs.Shifts.{shifts_xor, shifts_add, shifts_join}
use Rattle.fcs.proofs.Registers.{Bytes, register_little, little_append, little_lt, number}
use Rattle.fcs.proofs.Folds.{spread, spread_on, taps, fold_word}

-- a word of eight bytes, from which std's method makes d, and the bytes after it
module _ (w bs : List ℕ) (a d : ℕ) (ha : a < 2 ^ 64) (h : Bytes w) (l : length w ≡ 8) (p : d ≡ sum_through (λ (i : ℕ). byte_worth i (slice_index w i)) 7) where
  stands : d ≡ little w
  stands = p ∙ number 7 w l

  more : ℕ
  more = length bs * 8

  bits : length (w ++ bs) * 8 ≡ 64 + more
  unfolding more
  bits = simp length-append (omega arith)

  front : little (w ++ bs) ≡ little bs * 2 ^ 64 + d
  front =
      little_append w bs
      ∙ ap (λ (n : ℕ). little w + 256 ^ n * little bs) l
      ∙ ap (λ (n : ℕ). n + 256 ^ 8 * little bs) (sym stands)
      ∙ omega arith

  front_lt : d < 2 ^ 64
  front_lt = subst₂ (λ (x n : ℕ). x < 256 ^ n) (sym stands) l (little_lt w h)

  after_front : (ws : List ℕ) → after (a ∷ ws) (w ++ bs) ≡ shifts (64 + more) (xor (words ws) (little bs) * 2 ^ 64 + xor a d)
  unfolding after words xor
  after_front ws =
      ap₂ (λ (n x : ℕ). shifts n (xor (words ws * 2 ^ 64 + a) x)) bits front
      ∙ ap (λ (x : ℕ). shifts (64 + more) x) (xor_block 64 (words ws) (little bs) a d ha front_lt)

  pub word_lt : bit_xor a d < 2 ^ 64
  word_lt = xor_lt 64 a d ha front_lt

  -- far from the end the word is spread over those that follow
  pub after_fold : (ws vs : List ℕ) → words vs ≡ spread taps (bit_xor a d) (words ws) → 40 ≤ length bs → after vs bs ≡ after (a ∷ ws) (w ++ bs)
  unfolding after xor more
  after_fold ws vs q far =
      ap (λ (x : ℕ). shifts more (xor x (little bs))) (q ∙ spread_on taps (xor a d) (words ws))
      ∙ ap (λ (x : ℕ). shifts more x) (assoc (spread taps (xor a d) 0) (words ws) (little bs) ∙ sym (spread_on taps (xor a d) (xor (words ws) (little bs))))
      ∙ sym (fold_word more (xor a d) (xor (words ws) (little bs)) (omega arith) word_lt)
      ∙ sym (after_front ws)

  -- near it the word is shifted out, and what it leaves is put on the next
  pub after_shifts : (b c : ℕ) (ws : List ℕ) → b < 2 ^ 64 → c < 2 ^ 64 → c ≡ shifts 64 (bit_xor a d) → after (bit_xor b c ∷ ws) bs ≡ after (a ∷ b ∷ ws) (w ++ bs)
  unfolding after words xor more
  after_shifts b c ws hb hc q =
      ap (λ (x : ℕ). shifts more (xor x (little bs))) (ap (λ (x : ℕ). words ws * 2 ^ 64 + x) (comm b c) ∙ sym (xor_block 64 0 (words ws) c b hc hb) ∙ ap (λ (x : ℕ). xor x (words (b ∷ ws))) (zero-add c))
      ∙ ap (λ (x : ℕ). shifts more x) (assoc c (words (b ∷ ws)) (little bs))
      ∙ shifts_xor more c (xor (words (b ∷ ws)) (little bs))
      ∙ ap (λ (x : ℕ). xor x (shifts more (xor (words (b ∷ ws)) (little bs)))) (ap (λ (x : ℕ). shifts more x) q ∙ sym (shifts_add 64 more (xor a d)))
      ∙ sym (shifts_join 64 more (xor (words (b ∷ ws)) (little bs)) (xor a d) word_lt)
      ∙ sym (after_front (b ∷ ws))

-- one word that waits is the register itself
pub after_one : (bs : List ℕ) (c : ℕ) → Bytes bs → register c bs ≡ after (c ∷ []) bs
unfolding after words xor
after_one bs c h = register_little bs c h ∙ ap (λ (x : ℕ). shifts (length bs * 8) (xor x (little bs))) (sym (zero-add c))

-- before the first byte
pub after_start : (bs : List ℕ) → Bytes bs → after (0xFFFFFFFF ∷ 0 ∷ 0 ∷ 0 ∷ 0 ∷ []) bs ≡ register_of bs
unfolding after words register_of xor
after_start bs h = sym (register_little bs 0xFFFFFFFF h)
