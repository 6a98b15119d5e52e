-- What it means that a program tells nothing of memory but what it may load.
use Rattle.std.specs.Prelude.{ℕ, ◌≡◌, ◌⊎◌, List, [], ◌∷◌, length, get_or, set}
use Rattle.bus.specs.Bus.{Bus, done, load, store, run}

-- two memories of one length that agree on the addresses of Q, so far as they are inside
pub record Agree (Q : ℕ → Type 0) (m₁ m₂ : List ℕ) : Type 0 where
  pub lengths : length m₁ ≡ length m₂
  pub same : (a : ℕ) → Q a → get_or m₁ a 0 ≡ get_or m₂ a 0

-- each byte "is equal in both or is, in each, what it was before"
abbrev pub Apart : List ℕ → List ℕ → List ℕ → List ℕ → Type 0
Apart m₁ m₂ n₁ n₂ =
    (a : ℕ) → (get_or n₁ a 0 ≡ get_or n₂ a 0) ⊎ ((get_or n₁ a 0 ≡ get_or m₁ a 0) × (get_or n₂ a 0 ≡ get_or m₂ a 0))

-- the addresses that a program loads or stores to, in their order
unfoldable pub addresses : {A : Type 0} → Bus A → List ℕ → List ℕ
addresses (done a) m = []
addresses (load a k) m = a ∷ addresses (k (get_or m a 0)) m
addresses (store a b p) m = a ∷ addresses p (set m a b)

-- what a program tells of two memories: the same answer and the same addresses, and bytes that are equal in both or as they were
pub record Secret {A : Type 0} (p : Bus A) (m₁ m₂ : List ℕ) : Type 0 where
  pub answers : (run p m₁).answer ≡ (run p m₂).answer
  pub transfers : addresses p m₁ ≡ addresses p m₂
  pub bytes : Apart m₁ m₂ (run p m₁).memory (run p m₂).memory
