-- CSR0's word has CSR0's bits, and sixteen of them.
use mathlib.Core.Path.{◌≡◌, sym, ap, ◌∙◌}
use mathlib.Core.Bool.{Bool, true, false}
use mathlib.Core.List.{List, [], ◌∷◌}
use Prim.Native.Nat.{ℕ, zero, suc, ◌+◌, ◌-◌, ◌*◌, ◌/◌, ◌%◌, ◌^◌, ◌≤◌, ◌<◌}
use native.Mathlib.Nat.{pow-succ', mul_comm, div-div-eq-div-mul, not-suc-le-zero, le_of_suc-le-suc}
use native.Mathlib.Omega.{arith}
use lib.ListN.{length, get_or}
use lib.Dec.{eqb}
use borrow.Author.Tests.{eq-eqb, ne_eqb}
use Rattle.bus.specs.Bits.{bit, weigh}
use Rattle.registers.specs.declared.Csr0.{Csr0}
use Rattle.registers.specs.Csr0.{err, intr, word, csr0_of}

-- a bit as a digit, and digits in their order after a number
abbrev digit : Bool → ℕ
digit true = 1
digit false = 0

abbrev digits : List Bool → ℕ → ℕ
digits [] a = a
digits (b ∷ bs) a = digits bs (2 * a + digit b)

digit_small : (b : Bool) → digit b ≤ 1
digit_small true = omega arith
digit_small false = omega arith

weigh_digit : (b : Bool) (w : ℕ) → weigh b w ≡ w * digit b
unfolding weigh
weigh_digit true w = omega arith
weigh_digit false w = omega arith

-- what stands above the last digits
above : (bs : List Bool) (a : ℕ) → digits bs a / 2 ^ length bs ≡ a
above [] a = omega arith
above (b ∷ bs) a =
    ap (λ (n : ℕ). digits bs (2 * a + digit b) / n) (pow-succ' 2 (length bs) ∙ mul_comm 2 (2 ^ length bs))
    ∙ sym (div-div-eq-div-mul (digits bs (2 * a + digit b)) (2 ^ length bs) 2)
    ∙ ap (λ (n : ℕ). n / 2) (above bs (2 * a + digit b)) ∙ half b
  where
    half : (d : Bool) → (2 * a + digit d) / 2 ≡ a
    half true = omega arith
    half false = omega arith

-- .. so each bit is found at its place
last : (a : ℕ) (b : Bool) → eqb ((2 * a + digit b) % 2) 1 ≡ b
last a true = eq-eqb ((2 * a + 1) % 2) 1 (omega arith)
last a false = ne_eqb ((2 * a + 0) % 2) 1 (λ e. omega arith)

bit_at : (k : ℕ) (bs : List Bool) (a : ℕ) → k < length bs → bit (digits bs a) (2 ^ (length bs - suc k)) ≡ get_or bs k false
bit_at k [] a h = absurd (not-suc-le-zero h)
bit_at zero (b ∷ bs) a h =
    let e : suc (length bs) - suc zero ≡ length bs = omega arith in
    rw e (ap (λ (q : ℕ). eqb (q % 2) 1) (above bs (2 * a + digit b)) ∙ last a b)
bit_at (suc k) (b ∷ bs) a h =
    let e : suc (length bs) - suc (suc k) ≡ length bs - suc k = omega arith in
    rw e (bit_at k bs (2 * a + digit b) (le_of_suc-le-suc h))

-- the bits of CSR0 under ERR
abbrev bits_of : Csr0 → ℕ → List Bool
bits_of s x =
    s.babl ∷ (s.cerr ∷ (s.miss ∷ (s.merr ∷ (s.rint ∷ (s.tint ∷ (s.idon ∷ (intr s x ∷ (s.iena ∷ (s.rxon ∷ (s.txon ∷ (s.tdmd ∷ (s.stop ∷ (s.strt ∷ (s.init ∷ []))))))))))))))

word_digits : (s : Csr0) (x : ℕ) → word s x ≡ digits (bits_of s x) (digit (err s))
unfolding word
word_digits s x =
    omega (
      arith,
      weigh_digit (err s) 0x8000,
      weigh_digit s.babl 0x4000,
      weigh_digit s.cerr 0x2000,
      weigh_digit s.miss 0x1000,
      weigh_digit s.merr 0x0800,
      weigh_digit s.rint 0x0400,
      weigh_digit s.tint 0x0200,
      weigh_digit s.idon 0x0100,
      weigh_digit (intr s x) 0x0080,
      weigh_digit s.iena 0x0040,
      weigh_digit s.rxon 0x0020,
      weigh_digit s.txon 0x0010,
      weigh_digit s.tdmd 0x0008,
      weigh_digit s.stop 0x0004,
      weigh_digit s.strt 0x0002,
      weigh_digit s.init 0x0001,
    )

-- a state's word has the state's bits
pub csr0_back : (s : Csr0) (x : ℕ) → csr0_of (word s x) ≡ s
unfolding csr0_of
csr0_back s x =
    rw (
      f 0 (omega arith),
      f 1 (omega arith),
      f 2 (omega arith),
      f 3 (omega arith),
      f 4 (omega arith),
      f 5 (omega arith),
      f 6 (omega arith),
      f 8 (omega arith),
      f 9 (omega arith),
      f 10 (omega arith),
      f 11 (omega arith),
      f 12 (omega arith),
      f 13 (omega arith),
      f 14 (omega arith),
    )
  where
    f : (k : ℕ) → k < 15 → bit (word s x) (2 ^ (15 - suc k)) ≡ get_or (bits_of s x) k false
    f k h = ap (λ (w : ℕ). bit w (2 ^ (15 - suc k))) (word_digits s x) ∙ bit_at k (bits_of s x) (digit (err s)) h

-- CSR0 has sixteen bits
pub word_small : (s : Csr0) (x : ℕ) → word s x < 65536
word_small s x =
    let e : word s x / 32768 ≡ digit (err s) = ap (λ (w : ℕ). w / 32768) (word_digits s x) ∙ above (bits_of s x) (digit (err s)) in
    omega (arith, digit_small (err s))
