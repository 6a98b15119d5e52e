-- What it means that no test refuses a call, and that a call with a sound state is never refused with 9.
use Rattle.std.proofs.Common.{◌≡◌, refl, ℕ, ◌≤◌, Bool, true, false, List, [], ◌∷◌, Ok, arith}
use Rattle.std.specs.Prelude.{IfErr}
use Rattle.std.proofs.lemmas.Bool.{not-false}
use borrow.Author.Tests.{ltb-false}
use Rattle.answers.specs.declared.Refusal.{Refusal}
use Rattle.answers.specs.declared.Refusal.TheVariants.{Unsound}
use Rattle.answers.specs.Refusals.{refusal_number, Tested, Test, ◌refuses_if◌, first, read_tests, write_tests, arrive_tests, turn_tests}

module _ (r : Refusal) (ts : List Test) where
  -- where no test refuses, each passes
  passed : (b : Bool) → first (r refuses_if b ∷ ts) ≡ Ok tt → b ≡ false
  unfolding first
  passed true e = cc
  passed false e = refl

  rest : (b : Bool) → first (r refuses_if b ∷ ts) ≡ Ok tt → first ts ≡ Ok tt
  unfolding first
  rest true e = cc
  rest false e = e

-- .. so the state is sound
pub arrive_sound : (s : Bool) (n frame extra : ℕ) → arrive_tests s n frame extra ≡ Ok tt → s ≡ true
unfolding arrive_tests
arrive_sound s n frame extra e = not-false s (passed _ _ _ e)

pub turn_sound : (s : Bool) (n out report : ℕ) → turn_tests s n out report ≡ Ok tt → s ≡ true
unfolding turn_tests
turn_sound s n out report e = not-false s (passed _ _ _ e)

-- .. and the slice is long enough for a turn
pub slice_long : (s : Bool) (n out report : ℕ) → turn_tests s n out report ≡ Ok tt → 4100 ≤ out
unfolding turn_tests
slice_long s n out report e = ltb-false out 4100 (passed _ _ _ (rest _ _ _ (rest _ _ _ e)))

-- a call with a sound state is never refused with 9
abbrev pub Never9 : Tested → Type 0
Never9 k = IfErr k (λ r. refusal_number r ≡ 9 → ⊥)

other : (r : Refusal) (b : Bool) (ts : List Test) → (refusal_number r ≡ 9 → ⊥) → Never9 (first ts) → Never9 (first (r refuses_if b ∷ ts))
unfolding first
other r true ts h l = h
other r false ts h l = l

none : Never9 (first [])
unfolding first
none = tt

passes : (ts : List Test) → Never9 (first ts) → Never9 (first (Unsound refuses_if false ∷ ts))
unfolding first
passes ts l = l

ruleset never = (passes, other, none, arith)

pub read_never_9 : (a b : Bool) → Never9 (read_tests true a b)
unfolding read_tests
read_never_9 a b = search never depth 12

pub write_never_9 : (n : ℕ) (a b c : Bool) → Never9 (write_tests true n a b c)
unfolding write_tests
write_never_9 n a b c = search never depth 12

pub arrive_never_9 : (n frame extra : ℕ) → Never9 (arrive_tests true n frame extra)
unfolding arrive_tests
arrive_never_9 n frame extra = search never depth 12

pub turn_never_9 : (n out report : ℕ) → Never9 (turn_tests true n out report)
unfolding turn_tests
turn_never_9 n out report = search never depth 12
