-- The register over five words of eight bytes or more: all but the last five are folded, and those and what fills no word are shifted out.
-- Assumes nothing.
use mathlib.Core.Path.{◌≡◌, refl, sym, ap, ap₂, ◌∙◌, subst}
use mathlib.Core.List.{List, [], ◌∷◌, ◌++◌}
use Prim.Native.Nat.{ℕ, ◌+◌, ◌-◌, ◌*◌, ◌/◌, ◌≤◌}
use native.Mathlib.Omega.{arith}
use lib.ListN.{length, take, drop, take-append-drop, length-drop}
use Rattle.std.specs.List.{flat_map}
use Rattle.std.specs.Simd.{first_chunks}
use Rattle.fcs.specs.declared.fold.Waiting.{Waiting}
use Rattle.fcs.specs.Fcs.{register_of}
use Rattle.fcs.specs.Waiting.{after, ahead}
use Rattle.fcs.proofs.Afters.{after_start}
use Rattle.fcs.proofs.Chunks.{chunks_from, two_parts}
use Rattle.fcs.proofs.Registers.{Bytes}

pub by_words : (bs rest : List ℕ) (ws far near : List (List ℕ)) (p : Waiting) (r : ℕ) → r ≡ ahead p (flat_map (λ (w : List ℕ). w) near ++ rest)
    → ((xs : List ℕ) → 40 ≤ length xs → ahead p xs ≡ after (0xFFFFFFFF ∷ 0 ∷ 0 ∷ 0 ∷ 0 ∷ []) (flat_map (λ (w : List ℕ). w) far ++ xs))
    → far ≡ take (length ws - 5) ws → near ≡ drop (length ws - 5) ws → length far + 5 ≡ length ws
    → ws ≡ first_chunks 8 (length bs / 8) bs → rest ≡ drop (length bs / 8 * 8) bs → length ws ≡ length bs / 8
    → Bytes bs → r ≡ register_of bs
by_words bs rest ws far near p r end over front back some cut left count h =
    end
    ∙ over (flat_map (λ (w : List ℕ). w) near ++ rest) long
    ∙ ap (after (0xFFFFFFFF ∷ 0 ∷ 0 ∷ 0 ∷ 0 ∷ []))
    (two_parts far near rest
    ∙ ap (λ (x : List (List ℕ)). flat_map (λ (w : List ℕ). w) x ++ rest) (ap₂ (λ (x y : List (List ℕ)). x ++ y) front back ∙ take-append-drop (length ws - 5) ws)
    ∙ chunks_from 8 (length bs / 8) 0 bs rest ws ws cut left refl (omega arith))
    ∙ after_start bs h
  where
    long : 40 ≤ length (flat_map (λ (w : List ℕ). w) near ++ rest)
    long =
        subst (λ (x : List ℕ). 40 ≤ length x) (sym (chunks_from 8 (length bs / 8) (length ws - 5) bs rest ws near cut left back (omega arith)))
        (simp length-drop (omega arith))
