-- The register over a list by the number that its bytes stand for.
-- Assumes nothing.
use mathlib.Core.Path.{◌≡◌, refl, sym, ap, ap₂, ◌∙◌, subst, subst₂}
use mathlib.Core.List.{List, [], ◌∷◌, ◌++◌}
use Prim.Native.Nat.{ℕ, zero, suc, ◌+◌, ◌*◌, ◌/◌, ◌^◌, ◌≤◌, ◌<◌}
use native.Mathlib.Nat.{not-suc-le-zero, zero-mul, add-zero, mul_comm, mul_assoc, mul-add, add_assoc, one-mul, zero-add, pow-suc}
use native.Mathlib.Omega.{arith}
use lib.ListN.{length, get_or, take, drop, take-append-drop, length-drop, drop_of_length-le}
use lib.Seq.{take_all, drop-drop, length-take-le, get_or-drop, drop-cons}
use lib.Arith.{digits_lt}
use lib.Bits.{bit_xor}
use mir.Syntax.{w8}
use mir.Val.{Fits}
use Rattle.std.specs.Int.{sum_through, byte_worth}
use Rattle.std.specs.Prelude.{slice_index}
use Rattle.std.specs.Simd.{first_chunks}
use Rattle.fcs.proofs.Chunks.{chunk_at}
use Rattle.std.proofs.lemmas.List.{take_more}
use Rattle.bus.specs.Words.{little}
use Rattle.fcs.specs.Fcs.{shifts, enter, register}
use Rattle.fcs.proofs.Xor.{xor, assoc, comm, zero_left, joined}
use Rattle.fcs.proofs.Shifts.{shifts_xor, shifts_add, shifts_up}

-- every element is a byte
abbrev pub Bytes : List ℕ → Type 0
Bytes bs = (k : ℕ) → Fits w8 (get_or bs k 0)

tail_bytes : (b : ℕ) (bs : List ℕ) → Bytes (b ∷ bs) → Bytes bs
tail_bytes b bs h k = h (suc k)

pub take_bytes : (n : ℕ) (bs : List ℕ) → Bytes bs → Bytes (take n bs)
take_bytes zero bs h k = omega arith
take_bytes (suc n) [] h k = h k
take_bytes (suc n) (b ∷ bs) h zero = h zero
take_bytes (suc n) (b ∷ bs) h (suc k) = take_bytes n bs (tail_bytes b bs h) k

pub drop_bytes : (n : ℕ) (bs : List ℕ) → Bytes bs → Bytes (drop n bs)
drop_bytes n bs h k = rw get_or-drop (h (n + k))

enter_is : (c b : ℕ) → enter c b ≡ shifts 8 (xor b c)
unfolding enter xor
enter_is c b = refl

little_cons : (b : ℕ) (bs : List ℕ) → b < 256 → little (b ∷ bs) ≡ xor b (little bs * 2 ^ 8)
unfolding little
little_cons b bs h = omega arith ∙ sym (joined 8 (little bs) b h) ∙ comm (little bs * 2 ^ 8) b

count : (n : ℕ) → 8 + n * 8 ≡ suc n * 8
count n = omega arith

-- all bytes at once
pub register_little : (bs : List ℕ) (c : ℕ) → Bytes bs → register c bs ≡ shifts (length bs * 8) (xor c (little bs))
unfolding register little shifts
register_little [] c h = sym (ap₂ shifts (zero-mul 8) (comm c 0 ∙ zero_left c))
register_little (b ∷ bs) c h =
    register_little bs (enter c b) (tail_bytes b bs h)
    ∙ ap (λ (x : ℕ). shifts (length bs * 8) (xor x (little bs))) (enter_is c b)
    ∙ ap (λ (x : ℕ). shifts (length bs * 8) (xor (shifts 8 (xor b c)) x)) (sym (shifts_up 8 0 (little bs)))
    ∙ ap (λ (x : ℕ). shifts (length bs * 8) x) (sym (shifts_xor 8 (xor b c) (little bs * 2 ^ 8)))
    ∙ sym (shifts_add 8 (length bs * 8) (xor (xor b c) (little bs * 2 ^ 8)))
    ∙ ap₂ shifts (count (length bs)) (ap (λ (x : ℕ). xor x (little bs * 2 ^ 8)) (comm b c) ∙ assoc c b (little bs * 2 ^ 8) ∙ ap (λ (x : ℕ). xor c x) (sym (little_cons b bs (h 0).fits)))

register_append : (xs ys : List ℕ) (c : ℕ) → register c (xs ++ ys) ≡ register (register c xs) ys
unfolding register
register_append [] ys c = refl
register_append (x ∷ xs) ys c = register_append xs ys (enter c x)

-- the next n bytes at once, which stand for d; what is left comes to the same
some_bytes : (n : ℕ) (bs : List ℕ) (i c d c' whole : ℕ) → Bytes bs → d ≡ little (take n (drop i bs)) → c' ≡ shifts (n * 8) (bit_xor c d)
    → register c (drop i bs) ≡ whole → i + n ≤ length bs → register c' (drop (i + n) bs) ≡ whole
unfolding xor
some_bytes n bs i c d c' whole h p q e l =
    ap (λ (x : ℕ). register x (drop (i + n) bs)) (q ∙ ap (λ (x : ℕ). shifts (n * 8) (xor c x)) p)
    ∙ sym (ap₂ register
    (register_little (take n (drop i bs)) c (take_bytes n (drop i bs) (drop_bytes i bs h))
    ∙ ap (λ (k : ℕ). shifts (k * 8) (xor c (little (take n (drop i bs))))) (length-take-le n (drop i bs) (simp length-drop (omega arith))))
    (drop-drop n i bs))
    ∙ sym (register_append (take n (drop i bs)) (drop n (drop i bs)) c)
    ∙ ap (λ (x : List ℕ). register c x) (take-append-drop n (drop i bs))
    ∙ e

-- .. until nothing is left
pub no_byte : (bs : List ℕ) (i c whole : ℕ) → length bs ≤ i → register c (drop i bs) ≡ whole → c ≡ whole
unfolding register
no_byte bs i c whole l e = sym (ap (λ (x : List ℕ). register c x) (drop_of_length-le bs l)) ∙ e

-- n bytes stand for a number of n digits
pub little_lt : (bs : List ℕ) → Bytes bs → little bs < 256 ^ length bs
unfolding little
little_lt [] h = omega arith
little_lt (b ∷ bs) h =
    subst₂ (λ (x y : ℕ). x < y) (low_first (little bs)) (sym (pow-suc 256 (length bs))) (digits_lt (little_lt bs (tail_bytes b bs h)) (h 0).fits)
  where
    low_first : (n : ℕ) → n * 256 + b ≡ b + 256 * n
    low_first n = omega arith

-- the number of n bytes and n more
pub little_append : (xs ys : List ℕ) → little (xs ++ ys) ≡ little xs + 256 ^ length xs * little ys
unfolding little
little_append [] ys = sym (zero-add (1 * little ys) ∙ one-mul (little ys))
little_append (x ∷ xs) ys =
    ap (λ (n : ℕ). x + 256 * n) (little_append xs ys)
    ∙ ap (λ (n : ℕ). x + n) (mul-add 256 (little xs) (256 ^ length xs * little ys))
    ∙ sym (add_assoc x (256 * little xs) (256 * (256 ^ length xs * little ys)))
    ∙ ap (λ (n : ℕ). x + 256 * little xs + n) (sym (mul_assoc 256 (256 ^ length xs) (little ys)) ∙ ap (λ (n : ℕ). n * little ys) (mul_comm 256 (256 ^ length xs) ∙ sym (pow-suc 256 (length xs))))

-- the number that std's methods make of some bytes is the one that they stand for
first_bytes : (k : ℕ) (bs : List ℕ) → k < length bs → sum_through (λ (i : ℕ). byte_worth i (slice_index bs i)) k ≡ little (take (k + 1) bs)
unfolding little
first_bytes zero [] h = absurd (not-suc-le-zero h)
first_bytes zero (b ∷ bs) h = omega arith
first_bytes (suc k) bs h =
    ap₂ (λ (n m : ℕ). n + m) (first_bytes k bs (omega arith)) last
    ∙ sym (little_append (take (k + 1) bs) (get_or bs (suc k) 0 ∷ []))
    ∙ ap little (ap (λ (i : ℕ). take (k + 1) bs ++ get_or bs i 0 ∷ []) one_more ∙ sym (take_more bs (k + 1) 0 (omega arith)) ∙ ap (λ (i : ℕ). take (i + 1) bs) (sym one_more))
  where
    one_more : suc k ≡ k + 1
    one_more = omega arith

    last : get_or bs (suc k) 0 * 256 ^ suc k ≡ 256 ^ length (take (k + 1) bs) * little (get_or bs (suc k) 0 ∷ [])
    last =
        mul_comm (get_or bs (suc k) 0) (256 ^ suc k)
        ∙ ap₂ (λ (i n : ℕ). 256 ^ i * n) (one_more ∙ sym (length-take-le (k + 1) bs (omega arith))) (sym (add-zero (get_or bs (suc k) 0)))

pub number : (k : ℕ) (bs : List ℕ) → length bs ≡ suc k → sum_through (λ (i : ℕ). byte_worth i (slice_index bs i)) k ≡ little bs
number k bs l = first_bytes k bs (omega arith) ∙ ap little (take_all (k + 1) bs (omega arith))

-- the next word of four bytes; what is left comes to the same
pub next_word : (bs : List ℕ) (ws : List (List ℕ)) (k i c d c' whole : ℕ) → Bytes bs → ws ≡ first_chunks 4 k bs → k ≡ length bs / 4 → i < k
    → d ≡ sum_through (λ (j : ℕ). byte_worth j (slice_index (get_or ws i []) j)) 3 → c' ≡ shifts 32 (bit_xor c d)
    → register c (drop (i * 4) bs) ≡ whole → register c' (drop ((i + 1) * 4) bs) ≡ whole
next_word bs ws k i c d c' whole h p l n q r e =
    ap (λ (j : ℕ). register c' (drop j bs)) (omega arith) ∙ some_bytes 4 bs (i * 4) c d c' whole h stands r e (omega arith)
  where
    stands : d ≡ little (take 4 (drop (i * 4) bs))
    stands =
        q
        ∙ ap (λ (w : List ℕ). sum_through (λ (j : ℕ). byte_worth j (slice_index w j)) 3) (ap (λ (x : List (List ℕ)). get_or x i []) p ∙ chunk_at 4 k i [] bs n)
        ∙ number 3 (take 4 (drop (i * 4) bs)) (length-take-le 4 (drop (i * 4) bs) (simp length-drop (omega arith)))

one_byte : (bs : List ℕ) (i : ℕ) → i < length bs → get_or bs i 0 ≡ little (take 1 (drop i bs))
unfolding little
one_byte bs i h = sym (ap (λ (x : List ℕ). little (take 1 x)) (drop-cons bs i 0 h) ∙ add-zero (get_or bs i 0))

-- .. or the next byte of those that fill no word
pub next_byte : (bs rest : List ℕ) (m i c d c' whole : ℕ) → Bytes bs → rest ≡ drop m bs → i < length rest → d ≡ get_or rest i 0 → c' ≡ shifts 8 (bit_xor c d)
    → register c (drop i rest) ≡ whole → register c' (drop (i + 1) rest) ≡ whole
next_byte bs rest m i c d c' whole h p n q r e =
    some_bytes 1 rest i c d c' whole (subst Bytes (sym p) (drop_bytes m bs h)) (q ∙ one_byte rest i n) r e (omega arith)
