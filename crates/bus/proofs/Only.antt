-- What it is for a contract to leave one answer, and the shapes of contract that do.
use mathlib.Core.Path.{◌≡◌, sym, ◌∙◌, ap}
use mathlib.Core.List.{List}
use Prim.Native.Nat.{ℕ}
use Rattle.bus.specs.Bus.{Ended, Left}

-- a contract speaks of lifetimes, arguments, the answer and the parameters at exit
module _ {K : Type 0} {A R E : K → Type 0} where
  -- two answers that meet a contract on the same arguments are equal
  abbrev pub Only : ((κs : K) → A κs → R κs → E κs → Type 0) → Type 0
  Only P = (κs : K) (a : A κs) (r s : R κs) (e f : E κs) → P κs a r e → P κs a s f → r ≡ s

  -- .. and so is what `held` says that the parameters hold at exit
  abbrev pub OnlyWith : {H : Type 0} → ((κs : K) → A κs → R κs → E κs → Type 0) → ((κs : K) → E κs → H) → Type 0
  OnlyWith P held = (κs : K) (a : A κs) (r s : R κs) (e f : E κs) → P κs a r e → P κs a s f → (r ≡ s) × (held κs e ≡ held κs f)

-- an equation of the answer leaves one answer
pub equation : {A : Type 0} {r s x : A} → r ≡ x → s ≡ x → r ≡ s
equation p q = p ∙ sym q

-- so does such an equation together with a bound
pub bounded : {A B C : Type 0} {r s x : A} → (r ≡ x) × B → (s ≡ x) × C → r ≡ s
bounded p q = equation p.0 q.0

-- what a program comes to leaves one answer and one memory
pub ended : {A : Type 0} {x : Ended A} {r s : A} {m n : List ℕ} → x ≡ record { answer = r; memory = m } → x ≡ record { answer = s; memory = n } → (r ≡ s) × (m ≡ n)
ended p q = (ap (λ t. t.answer) (sym p ∙ q), ap (λ t. t.memory) (sym p ∙ q))

-- .. and what it leaves, the outgoing slice too
pub left : {A : Type 0} {x : Left A} {r s : A} {m n o p : List ℕ} → x ≡ record { answer = r; memory = m; out = o } → x ≡ record { answer = s; memory = n; out = p }
    → (r ≡ s) × (◌≡◌ {A = List ℕ × List ℕ} (m, o) (n, p))
left p q = (ap (λ t. t.answer) (sym p ∙ q), ap (λ t. (t.memory, t.out)) (sym p ∙ q))
