-- `fcs::fold::Waiting::after` meets its contract: at each turn what is ahead comes to the same.
-- Assumes nothing.
use mathlib.Core.Path.{◌≡◌}
use mathlib.Core.List.{List, [], ◌∷◌, ◌++◌}
use Prim.Native.Nat.{ℕ, ◌≤◌}
use lib.ListN.{length}
use Rattle.std.specs.List.{flat_map}
use Rattle.fcs.specs.Waiting.{after, ahead}
use Rattle.fcs.proofs.fold.Waiting.after.Given as goal

abbrev pub invariant-loop-five : goal.invariant-loop-five
invariant-loop-five l = (bs : List ℕ) → 40 ≤ length bs → ahead l.p (flat_map (λ (w : List ℕ). w) l.rest ++ bs) ≡ after (0xFFFFFFFF ∷ 0 ∷ 0 ∷ 0 ∷ 0 ∷ []) (flat_map (λ (w : List ℕ). w) l.words ++ bs)

abbrev pub decreases-loop-five : goal.decreases-loop-five
decreases-loop-five l = length l.rest
