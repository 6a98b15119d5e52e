-- What the stores of a block come to: at each step what is left to write comes to the whole, and writes in a row make the block.
use mathlib.Core.Path.{◌≡◌, refl, sym, ap, ap₂, ◌∙◌}
use mathlib.Core.List.{List, ◌++◌, append-nil}
use Prim.Native.Nat.{ℕ, suc, ◌+◌, ◌-◌, ◌*◌, ◌≤◌, ◌<◌}
use native.Mathlib.Nat.{zero-add}
use native.Mathlib.Omega.{arith}
use native.Mathlib.Numerals.{add-one}
use lib.ListN.{length, get_or, take, drop, replicate, length-append, length-drop, length-replicate, drop_of_length-le}
use lib.Seq.{drop-cons, length-take-le}
use borrow.Rule.Slice.PartMut.{put_mid}
use Rattle.fcs.specs.Fcs.{fcs_of}
use Rattle.bus.specs.Words.{bytes_of, overwritten}
use Rattle.bus.proofs.Bytes.{pasted, written_more, written_front, take_written}
use Rattle.card.specs.declared.Card.{Card}
use Rattle.card.specs.State.{WORDS, state_words}
use Rattle.block.specs.Block.{BYTES, CHECKED, word_bytes, unused, body_of, block_of}

-- once i of the words are written: one more, or no more
module _ (ws b w : List ℕ) (i : ℕ) (p : overwritten b (2 * i) (word_bytes (drop i ws)) ≡ w) where
  pub put_goes : (b₁ : List ℕ) → i < length ws → b₁ ≡ overwritten b (2 * i) (bytes_of 2 (get_or ws i 0))
      → overwritten b₁ (2 * (i + 1)) (word_bytes (drop (i + 1) ws)) ≡ w
  unfolding word_bytes bytes_of
  put_goes b₁ h e =
      let n : 2 * (i + 1) ≡ 2 * i + 2 = omega arith in
      ap (λ (l : List ℕ). overwritten l (2 * (i + 1)) (word_bytes (drop (i + 1) ws))) e
      ∙ rw (n, add-one i) (written_more (bytes_of 2 (get_or ws i 0)) (word_bytes (drop (suc i) ws)) b (2 * i))
      ∙ sym (ap (λ (l : List ℕ). overwritten b (2 * i) (word_bytes l)) (drop-cons ws i 0 h)) ∙ p

  pub put_ends : length ws ≤ i → b ≡ w
  unfolding word_bytes overwritten
  put_ends h = sym (ap (λ (l : List ℕ). overwritten b (2 * i) (word_bytes l)) (drop_of_length-le ws h)) ∙ p

-- the unused bytes, once they are 0
pub cleared : (b ys : List ℕ) → ys ≡ replicate (length (take (CHECKED - 2 * WORDS) (drop (2 * WORDS) b))) 0 → CHECKED ≤ length b
    → put_mid (2 * WORDS) (CHECKED - 2 * WORDS) b ys ≡ overwritten b (2 * WORDS) unused
unfolding unused
cleared b ys e h =
    let n : length (take (CHECKED - 2 * WORDS) (drop (2 * WORDS) b)) ≡ CHECKED - 2 * WORDS =
    length-take-le (CHECKED - 2 * WORDS) (drop (2 * WORDS) b) (omega (arith, length-drop (2 * WORDS) b)) in
    let l : length unused ≡ CHECKED - 2 * WORDS = length-replicate {A = ℕ} (CHECKED - 2 * WORDS) 0 in
    pasted b ys unused (2 * WORDS) (CHECKED - 2 * WORDS) (CHECKED - 2 * WORDS) (e ∙ ap (λ (k : ℕ). replicate k 0) n) l refl (omega arith)

-- the bytes that the check is made of
pub length_state : (c : Card) → length (word_bytes (state_words c)) ≡ 2 * WORDS
unfolding word_bytes state_words bytes_of
length_state c = refl

pub length_body : (c : Card) → length (body_of c) ≡ CHECKED
unfolding body_of unused
length_body c = length-append (word_bytes (state_words c)) unused ∙ omega (arith, length_state c)

-- .. and the block
pub length_block : (c : Card) → length (block_of c) ≡ BYTES
unfolding block_of bytes_of
length_block c = length-append (body_of c) (bytes_of 4 (fcs_of (body_of c))) ∙ omega (arith, length_body c)

-- bytes written behind others that were written from the start
behind : (xs ys b b₁ b₂ : List ℕ) (n : ℕ) → length xs ≡ n → b₁ ≡ overwritten b 0 xs → b₂ ≡ overwritten b₁ n ys
    → b₂ ≡ overwritten b 0 (xs ++ ys)
behind xs ys b b₁ b₂ n l e f =
    f ∙ ap₂ (λ (o : List ℕ) (k : ℕ). overwritten o k ys) e (sym l ∙ sym (zero-add (length xs))) ∙ written_more xs ys b 0

-- the words, the zeros and the check make the block
pub block_put : (b b₁ b₂ b₃ ws : List ℕ) (c : Card) (f : ℕ) → length b ≡ BYTES → ws ≡ state_words c → b₁ ≡ overwritten b 0 (word_bytes ws)
    → b₂ ≡ overwritten b₁ (2 * WORDS) unused → f ≡ fcs_of (take CHECKED b₂) → b₃ ≡ overwritten b₂ CHECKED (bytes_of 4 f) → b₃ ≡ block_of c
unfolding block_of body_of
block_put b b₁ b₂ b₃ ws c f n ew e₁ e₂ ef e₃ =
    let s : b₂ ≡ overwritten b 0 (body_of c) =
    behind (word_bytes (state_words c)) unused b b₁ b₂ (2 * WORDS) (length_state c) (e₁ ∙ ap (λ (l : List ℕ). overwritten b 0 (word_bytes l)) ew) e₂ in
    let t : take CHECKED b₂ ≡ body_of c =
    ap₂ take (sym (length_body c)) s ∙ take_written (body_of c) b (omega (arith, length_body c)) in
    let m : length (block_of c) ≤ length b = omega (arith, length_block c) in
    let k : length b ≤ length (block_of c) = omega (arith, length_block c) in
    behind (body_of c) (bytes_of 4 f) b b₂ b₃ CHECKED (length_body c) s e₃
    ∙ ap (λ (x : ℕ). overwritten b 0 (body_of c ++ bytes_of 4 x)) (ef ∙ ap fcs_of t)
    ∙ written_front (block_of c) b m ∙ ap (◌++◌ (block_of c)) (drop_of_length-le b k) ∙ append-nil (block_of c)
