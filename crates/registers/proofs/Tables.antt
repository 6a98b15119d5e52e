-- A write to any row of the table leaves the written registers settled.
use mathlib.Core.Path.{◌≡◌}
use mathlib.Core.Bool.{true, and-eq-true_iff}
use Prim.Native.Nat.{ℕ, ◌+◌, ◌*◌, ◌/◌, ◌%◌, ◌<◌}
use native.Mathlib.Omega.{arith}
use lib.Dec.{eqb}
use borrow.Author.Tests.{eq-eqb, eqb-true}
use Rattle.bus.proofs.Within.{so_if}
use Rattle.registers.specs.declared.Written.{Written}
use Rattle.registers.specs.Table.{SELECT, kept, keep, settled}

-- what a register keeps of a word it keeps whole
again_rap : (v : ℕ) → kept SELECT (kept SELECT v) ≡ kept SELECT v
unfolding kept
again_rap v = omega arith

again_csr2 : (v : ℕ) → kept 2 (kept 2 v) ≡ kept 2 v
unfolding kept
again_csr2 v = omega arith

-- "CSR3 keeps bits 14, 12, 11, 10, 9, 8"
kept_bits : (a b : ℕ) → a < 2 → b < 32 → kept 3 (a * 0x4000 + b * 0x100) ≡ a * 0x4000 + b * 0x100
unfolding kept
kept_bits a b h l =
    let high : (a * 0x4000 + b * 0x100) / 0x4000 % 2 ≡ a = omega arith in
    let low : (a * 0x4000 + b * 0x100) / 0x100 % 32 ≡ b = omega arith in
    rw (high, low)

again_csr3 : (v : ℕ) → kept 3 (kept 3 v) ≡ kept 3 v
unfolding kept
again_csr3 v = kept_bits (v / 0x4000 % 2) (v / 0x100 % 32) (omega arith) (omega arith)

-- the written registers are settled where each has only bits that it keeps
record Settled (w : Written) : Type 0 where
  rap : kept SELECT w.rap ≡ w.rap
  csr2 : kept 2 w.csr2 ≡ w.csr2
  csr3 : kept 3 w.csr3 ≡ w.csr3

of_settled : (w : Written) → settled w ≡ true → Settled w
unfolding settled
of_settled w h =
    let all = (and-eq-true_iff _ _).0 h in
    let both = (and-eq-true_iff _ _).0 all.0 in
    record { rap = eqb-true _ _ both.0; csr2 = eqb-true _ _ both.1; csr3 = eqb-true _ _ all.1 }

settled_of : (w : Written) → Settled w → settled w ≡ true
unfolding settled
settled_of w s = rw (eq-eqb _ _ s.rap, eq-eqb _ _ s.csr2, eq-eqb _ _ s.csr3)

-- a write leaves settled registers settled
pub keep_settled : (w : Written) (r v : ℕ) → settled w ≡ true → settled (keep w r v) ≡ true
unfolding keep
keep_settled w r v h =
    let s = of_settled w h in
    settled_of (keep w r v)
    (record {
      rap = so_if (λ (x : ℕ). kept SELECT x ≡ x) (eqb r SELECT) _ _ (again_rap v) s.rap;
      csr2 = so_if (λ (x : ℕ). kept 2 x ≡ x) (eqb r 2) _ _ (again_csr2 v) s.csr2;
      csr3 = so_if (λ (x : ℕ). kept 3 x ≡ x) (eqb r 3) _ _ (again_csr3 v) s.csr3;
    })

-- RAP selects one of 128
pub settled_rap : (w : Written) → settled w ≡ true → w.rap < 128
unfolding kept
settled_rap w h = let e : w.rap % 128 ≡ w.rap = (of_settled w h).rap in omega arith
