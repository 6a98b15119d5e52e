-- What a program touches, and what its answer meets: the one relation from which secrecy, "what is elsewhere stays" and the
-- answers' bounds follow.
use Rattle.std.specs.Prelude.{ℕ, ◌≡◌, ◌⊎◌, List, get_or, set}
use Rattle.bus.specs.Bus.{Bus, done, load, store}

-- L says which addresses may be loaded, S which byte may be stored where, both on the memory of the moment; what was allowed at
-- one moment of a call stays so till its end, since a buffer may cover the descriptor that names it
module _ (L : List ℕ → ℕ → Type 0) (S : List ℕ → ℕ → ℕ → Type 0) where
  -- each load is at an address of L, or of `been`: stored to or allowed before; each store is one of S, or of `might`; and E
  -- holds of the answer and the memory then
  unfoldable pub Keeps : {A : Type 0} → (List ℕ → A → Type 0) → (ℕ → Type 0) → (ℕ → ℕ → Type 0) → Bus A → List ℕ → Type 0
  Keeps E been might (done a) m = E m a
  Keeps E been might (load a k) m = (been a ⊎ L m a) × Keeps E been might (k (get_or m a 0)) m
  Keeps E been might (store a b p) m =
      (might a b ⊎ S m a b) × Keeps E (λ x. (x ≡ a) ⊎ (been x ⊎ L m x)) (λ x y. might x y ⊎ S m x y) p (set m a b)

  -- .. from the start of a call
  abbrev pub Within : {A : Type 0} → (List ℕ → A → Type 0) → Bus A → List ℕ → Type 0
  Within E p m = Keeps E (λ x. ⊥) (λ x y. ⊥) p m
