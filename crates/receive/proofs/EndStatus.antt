-- The status of the slot where a frame ends tells only whether there are extra bits, not how many.
use mathlib.Core.Path.{◌≡◌, refl}
use mathlib.Core.Bool.{Bool, true, false}
use Prim.Native.Nat.{ℕ, zero, suc}
use Rattle.receive.specs.Status.{end_status}

pub end_extra : (right : Bool) (extra : ℕ) → (extra ≡ 0 → ⊥) → end_status right extra ≡ end_status right 1
unfolding end_status
end_extra right zero e = absurd (e refl)
end_extra true (suc k) e = refl
end_extra false (suc k) e = refl
