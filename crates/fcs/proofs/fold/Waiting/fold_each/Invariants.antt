-- `fcs::fold::Waiting::fold_each` meets its contract: at each turn what is ahead comes to the same.
-- Assumes nothing.
use mathlib.Core.Path.{◌≡◌}
use mathlib.Core.List.{List, ◌++◌}
use Prim.Native.Nat.{ℕ, ◌≤◌}
use lib.ListN.{length, drop}
use Rattle.std.specs.List.{flat_map}
use Rattle.fcs.specs.Waiting.{ahead}
use Rattle.fcs.proofs.fold.Waiting.fold_each.Given as goal

abbrev pub invariant-loop-word : goal.invariant-loop-word
invariant-loop-word l = (bs : List ℕ) → 40 ≤ length bs → ahead l.p (flat_map (λ (w : List ℕ). w) (drop l.word-index l.words) ++ bs) ≡ ahead l.fn.self (flat_map (λ (w : List ℕ). w) l.words ++ bs)
