-- The table of registers: which there are, which lock, which are written and which bits each keeps. What each shows is in `card`.
use Rattle.std.specs.Prelude.{ℕ, ◌+◌, ◌*◌, ◌/◌, ◌%◌, Bool, true, false, not, ◌&&◌, ◌||◌, List, [], ◌∷◌, eqb}
use Rattle.std.specs.Prelude.{if◌then◌else◌}
use Rattle.registers.specs.declared.Written.{Written}

-- "Offsets from the card's base, word accesses only: 10h RDP, 12h RAP, 14h reset."
abbrev pub RDP : ℕ
RDP = 0x10

abbrev pub RAP : ℕ
RAP = 0x12

abbrev pub RESET : ℕ
RESET = 0x14

-- a register: its number, whether it is locked "while STOP is clear", and whether it is written
pub record Register : Type 0 where
  pub number : ℕ
  pub locks : Bool
  pub writes : Bool

abbrev written : Bool → ℕ → Register
written locks n = record { number = n; locks = locks; writes = true }

abbrev reads : Bool → ℕ → Register
reads locks n = record { number = n; locks = locks; writes = false }

-- "CSR0 to CSR3 are written; these only read: CSR8 to 15 .., 24/25 and 30/31 .., 72/74 and 76/78 .., 88/89 .., 112 .. All but 0,
-- 88, 89, 112 are locked while STOP is clear."
abbrev pub table : List Register
table =
    written false 0
    ∷ (written true 1
    ∷ (written true 2
    ∷ (written true 3
    ∷ (reads true 8
    ∷ (reads true 9
    ∷ (reads true 10
    ∷ (reads true 11
    ∷ (reads true 12
    ∷ (reads true 13
    ∷ (reads true 14
    ∷ (reads true 15
    ∷ (reads true 24
    ∷ (reads true 25
    ∷ (reads true 30
    ∷ (reads true 31
    ∷ (reads true 72
    ∷ (reads true 74
    ∷ (reads true 76
    ∷ (reads true 78
    ∷ (reads false 88
    ∷ (reads false 89
    ∷ (reads false 112
    ∷ []))))))))))))))))))))))

-- whether the rows that P chooses have a number
abbrev among : (Register → Bool) → List Register → Bool → ℕ → Bool
among P [] found r = found
among P (x ∷ xs) found r = among P xs (if P x then found || eqb r x.number else found) r

-- which there are, which never lock, and which are written
abbrev pub known : ℕ → Bool
known = among (λ x. true) table false

abbrev pub free : ℕ → Bool
free = among (λ x. not x.locks) table false

abbrev pub writable : ℕ → Bool
writable = among (λ x. x.writes) table false

-- 7: "no such offset or register"; RAP "selects the CSR behind RDP"
unfoldable pub no_register : ℕ → ℕ → Bool
no_register rap offset = not ((eqb offset RDP && known rap) || eqb offset RAP || eqb offset RESET)

-- 6: "register locked, STOP being clear"
unfoldable pub locked : Bool → ℕ → ℕ → Bool
locked stop rap offset = eqb offset RDP && not stop && not (free rap)

-- 8: "write to a register that only reads"
unfoldable pub only_reads : ℕ → ℕ → Bool
only_reads rap offset = eqb offset RDP && not (writable rap)

-- RAP's own row: no CSR has this number, since RAP never selects it
abbrev pub SELECT : ℕ
SELECT = 128

-- "RAP keeps the written value modulo 128"; "CSR1 reads as written, CSR2's high byte as 0"; "CSR3 keeps bits 14, 12, 11, 10, 9, 8"
unfoldable pub kept : ℕ → ℕ → ℕ
kept r v =
    if eqb r SELECT
    then v % 128
    else if eqb r 2 then v % 256 else if eqb r 3 then v / 0x4000 % 2 * 0x4000 + v / 0x100 % 32 * 0x100 else v

-- the written registers after a write of v to row r
unfoldable pub keep : Written → ℕ → ℕ → Written
keep w r v =
    record {
      rap = if eqb r SELECT then kept SELECT v else w.rap;
      csr1 = if eqb r 1 then kept 1 v else w.csr1;
      csr2 = if eqb r 2 then kept 2 v else w.csr2;
      csr3 = if eqb r 3 then kept 3 v else w.csr3;
    }

-- "bits that the registers below drop are 0"
unfoldable pub settled : Written → Bool
settled w = eqb (kept SELECT w.rap) w.rap && eqb (kept 2 w.csr2) w.csr2 && eqb (kept 3 w.csr3) w.csr3
