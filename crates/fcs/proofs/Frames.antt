-- A frame with its FCS at the end, by what the code looks at.
-- Assumes nothing.
use mathlib.Core.Path.{◌≡◌, sym, ap, ap₂, ◌∙◌}
use mathlib.Core.Bool.{Bool, false}
use mathlib.Core.List.{List}
use Prim.Native.Nat.{ℕ, ◌+◌, ◌-◌, ◌<◌}
use native.Mathlib.Omega.{arith}
use borrow.Author.Tests.{lt-leb, le-leb}
use lib.ListN.{length, take, drop, length-drop}
use lib.Dec.{eqb}
use Rattle.std.specs.Int.{sum_through, byte_worth}
use Rattle.std.specs.Prelude.{slice_index}
use Rattle.bus.specs.Words.{little}
use Rattle.fcs.proofs.Registers.{number}
use Rattle.fcs.specs.Fcs.{fcs_of, both, right_fcs}

pub too_short : (f : List ℕ) → length f < 4 → false ≡ right_fcs f
unfolding right_fcs both
too_short f h = sym (ap (λ (t : Bool). both t (eqb (little (drop (length f - 4) f)) (fcs_of (take (length f - 4) f)))) (lt-leb 4 (length f) h))

pub long_enough : (f before fcs : List ℕ) (d e : ℕ) → before ≡ take (length f - 4) f → fcs ≡ drop (length f - 4) f → length before + 4 ≡ length f
    → d ≡ sum_through (λ (i : ℕ). byte_worth i (slice_index fcs i)) 3 → e ≡ fcs_of before → eqb d e ≡ right_fcs f
unfolding right_fcs both
long_enough f before fcs d e p q l x y =
    ap₂ eqb (x ∙ number 3 fcs (ap length q ∙ length-drop (length f - 4) f ∙ omega arith) ∙ ap little q) (y ∙ ap fcs_of p)
    ∙ sym (ap (λ (t : Bool). both t (eqb (little (drop (length f - 4) f)) (fcs_of (take (length f - 4) f)))) (le-leb 4 (length f) (omega arith)))
