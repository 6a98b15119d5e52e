-- Bytes that are read from a slice and written into one.
use mathlib.Core.Path.{◌≡◌, refl, sym, ap, ap₂, subst, ◌∙◌}
use mathlib.Core.List.{List, [], ◌∷◌, ◌++◌, append_assoc}
use Prim.Native.Nat.{ℕ, zero, suc, ◌+◌, ◌-◌, ◌*◌, ◌/◌, ◌≤◌, ◌<◌}
use native.Mathlib.Nat.{zero-add, add-zero, add-suc, suc-add, sub-zero, not-suc-le-zero, le_of_suc-le-suc, lt_irrefl}
use native.Mathlib.Numerals.{add-one}
use native.Mathlib.Omega.{arith}
use borrow.Author.Count.{below_more}
use lib.ListN.{length, get_or, set, take, drop, length-set}
use lib.Seq.{sets, sets-eq, drop-cons, drop-drop, take-append_seam, get_or-set_same, get_or-set_other, ext_get_or}
use borrow.Rule.Slice.PartMut.{put_mid}
use mir.Syntax.{w16, w32}
use Rattle.std.specs.Int.{to_le_bytes}
use Rattle.bus.specs.Words.{joined, bytes_of, part, words_at, overwritten, filled}

-- the bytes from an address on, where all are inside
pub part_is : (k a : ℕ) (m : List ℕ) → a + k ≤ length m → part m a k ≡ take k (drop a m)
unfolding part
part_is zero a m h = refl
part_is (suc k) a m h =
    let e : suc a + k ≤ length m = omega (arith, add-suc a k) in
    let i : a < length m = omega arith in
    ap (λ (r : List ℕ). get_or m a 0 ∷ r) (part_is k (suc a) m e) ∙ sym (ap (take (suc k)) (drop-cons m a 0 i))

-- one of them
pub get_d_part : (k i a : ℕ) (m : List ℕ) → i < k → get_or (part m a k) i 0 ≡ get_or m (a + i) 0
unfolding part
get_d_part zero i a m h = absurd (not-suc-le-zero h)
get_d_part (suc k) zero a m h = ap (λ (j : ℕ). get_or m j 0) (sym (add-zero a))
get_d_part (suc k) (suc i) a m h =
    get_d_part k i (suc a) m (le_of_suc-le-suc h)
    ∙ ap (λ (j : ℕ). get_or m j 0) (suc-add a i ∙ sym (add-suc a i))

-- their number
pub length_part : (k a : ℕ) (m : List ℕ) → length (part m a k) ≡ k
unfolding part
length_part zero a m = refl
length_part (suc k) a m = ap suc (length_part k (suc a) m)

-- one of the words from an address on
pub get_d_words : (k i a : ℕ) (m : List ℕ) → i < k → get_or (words_at m a k) i 0 ≡ joined (get_or m (a + 2 * i) 0) (get_or m (suc (a + 2 * i)) 0)
unfolding words_at
get_d_words zero i a m h = absurd (not-suc-le-zero h)
get_d_words (suc k) zero a m h = let e : a + 2 * 0 ≡ a = omega arith in rw e
get_d_words (suc k) (suc i) a m h =
    let e : a + 2 * suc i ≡ suc (suc a) + 2 * i = omega arith in
    rw e (get_d_words k i (suc (suc a)) m (le_of_suc-le-suc h))

-- their number
pub length_words : (k a : ℕ) (m : List ℕ) → length (words_at m a k) ≡ k
unfolding words_at
length_words zero a m = refl
length_words (suc k) a m = ap suc (length_words k (suc (suc a)) m)

-- what a part of a slice is copied over with, in the definition's words
pub pasted : (out ys bs : List ℕ) (at n k : ℕ) → ys ≡ bs → length bs ≡ n → k ≡ n → at + n ≤ length out → put_mid at k out ys ≡ overwritten out at bs
unfolding overwritten
pasted out ys bs at n k e l same h =
    let room : at + length bs ≤ length out = omega arith in
    let rest : drop k (drop at out) ≡ drop (at + length bs) out = drop-drop k at out ∙ ap (λ (j : ℕ). drop (at + j) out) (same ∙ sym l) in
    ap (λ (r : List ℕ). take at out ++ r) (ap₂ ◌++◌ e rest) ∙ sym (append_assoc (take at out) bs (drop (at + length bs) out))
    ∙ sym (sets-eq bs out at room)

-- .. with a number's bytes, as the library has them
pub word_put : (out ys : List ℕ) (at k w : ℕ) → ys ≡ to_le_bytes w16 w → k ≡ 2 → at + 2 ≤ length out → put_mid at k out ys ≡ overwritten out at (bytes_of 2 w)
unfolding bytes_of
word_put out ys at k w e = pasted out ys (bytes_of 2 w) at 2 k e refl

pub double_put : (out ys : List ℕ) (at k x : ℕ) → ys ≡ to_le_bytes w32 x → k ≡ 4 → at + 4 ≤ length out → put_mid at k out ys ≡ overwritten out at (bytes_of 4 x)
unfolding bytes_of
double_put out ys at k x e =
    let b : x / 65536 ≡ x / 256 / 256 = omega arith in
    let c : x / 16777216 ≡ x / 256 / 256 / 256 = omega arith in
    pasted out ys (bytes_of 4 x) at 4 k (e ∙ rw (b, c) refl) refl

-- what is left of a copy, at its start, after one byte and at its end
module _ (m out : List ℕ) (from at count : ℕ) where
  pub copy_start : overwritten out (at + 0) (part m (from + 0) (count - 0)) ≡ overwritten out at (part m from count)
  copy_start = rw (add-zero at, add-zero from, sub-zero count)

  module _ (i : ℕ) (w : List ℕ) (e : overwritten out (at + i) (part m (from + i) (count - i)) ≡ w) where
    pub copy_on : i < count → overwritten (set out (at + i) (get_or m (from + i) 0)) (at + (i + 1)) (part m (from + (i + 1)) (count - (i + 1))) ≡ w
    unfolding overwritten part
    copy_on h =
        let a : at + (i + 1) ≡ suc (at + i) = omega arith in
        let f : from + (i + 1) ≡ suc (from + i) = omega arith in
        let k : count - i ≡ suc (count - (i + 1)) = omega arith in
        rw (a, f) (ap (λ (x : ℕ). sets out (at + i) (part m (from + i) x)) (sym k) ∙ e)

    pub copy_end : count ≤ i → out ≡ w
    unfolding overwritten part
    copy_end h =
        let k : count - i ≡ 0 = omega arith in
        ap (λ (x : ℕ). sets out (at + i) (part m (from + i) x)) (sym k) ∙ e

-- two writes in a row
pub written_more : (xs ys out : List ℕ) (at : ℕ) → overwritten (overwritten out at xs) (at + length xs) ys ≡ overwritten out at (xs ++ ys)
unfolding overwritten
written_more [] ys out at = ap (λ (a : ℕ). sets out a ys) (add-zero at)
written_more (x ∷ xs) ys out at =
    ap (λ (a : ℕ). sets (sets out at (x ∷ xs)) a ys) (add-suc at (length xs) ∙ sym (suc-add at (length xs)))
    ∙ written_more xs ys (set out at x) (suc at)

-- a write at the start
pub written_front : (f out : List ℕ) → length f ≤ length out → overwritten out 0 f ≡ filled f out
unfolding overwritten
written_front f out h =
    let e : 0 + length f ≡ length f = zero-add (length f) in
    let l : 0 + length f ≤ length out = omega arith in
    sets-eq f out 0 l ∙ ap (λ (k : ℕ). f ++ drop k out) e

pub take_written : (f out : List ℕ) → length f ≤ length out → take (length f) (overwritten out 0 f) ≡ f
take_written f out h = rw (written_front f out) (take-append_seam f (drop (length f) out))

-- the first i of some words are those that stand in memory
pub record Read (m ws : List ℕ) (at k i : ℕ) : Type 0 where
  pub within : i ≤ k
  pub long : length ws ≡ k
  pub so_far : (j : ℕ) → j < i → get_or ws j 0 ≡ get_or (words_at m at k) j 0

-- one more
pub read_more : (m ws : List ℕ) (at k i w low high : ℕ) → Read m ws at k i → i < k → w ≡ joined (get_or m low 0) (get_or m high 0)
    → low ≡ at + 2 * i → high ≡ at + 2 * i + 1 → Read m (set ws i w) at k (i + 1)
read_more m ws at k i w low high r h e first second =
    let l : i < length ws = omega (arith, r.long) in
    let here : get_or (set ws i w) i 0 ≡ get_or (words_at m at k) i 0 =
    get_or-set_same ws i w 0 l
    ∙ e
    ∙ ap₂ (λ (x y : ℕ). joined (get_or m x 0) (get_or m y 0)) first (second ∙ add-one (at + 2 * i))
    ∙ sym (get_d_words k i at m h) in
    record {
      within = omega arith;
      long = length-set ws i w ∙ r.long;
      so_far =
          below_more (λ (j : ℕ). get_or (set ws i w) j 0 ≡ get_or (words_at m at k) j 0) i
          (λ j b. get_or-set_other ws i j w 0 (λ q. lt_irrefl j (subst (λ (x : ℕ). j < x) (sym q) b)) ∙ r.so_far j b) here;
    }

-- all of them
pub read_all : (m ws : List ℕ) (at k i : ℕ) → Read m ws at k i → k ≤ i → ws ≡ words_at m at k
read_all m ws at k i r h =
    ext_get_or 0 ws (words_at m at k) (r.long ∙ sym (length_words k at m)) (λ j l. r.so_far j (omega (arith, r.long)))

-- none of them yet
pub read_none : (m ws : List ℕ) (at : ℕ) → Read m ws at (length ws) 0
read_none m ws at = record { within = omega arith; long = refl; so_far = λ j l. absurd (omega arith) }
