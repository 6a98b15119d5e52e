-- What follows of a program that keeps within bounds: what its answer meets, what stays of memory, and that it tells nothing else.
use Prim.Native.Nat.{ℕ, zero, suc}
use native.Mathlib.Decide.{ℕ_discrete}
use native.Mathlib.Omega.{arith}
use mathlib.Core.Path.{◌≡◌, refl, sym, ap, subst, ◌∙◌}
use mathlib.Core.Logic.{◌⊎◌, inl, inr, ⊎_elim}
use mathlib.Core.List.{List, [], ◌∷◌}
use lib.ListN.{length, get_or, set, length-set}
use lib.Seq.{get_or-set_other}
use Rattle.bus.specs.Bus.{Bus, done, load, store, run}
use Rattle.bus.specs.Within.{Keeps, Within}
use Rattle.bus.specs.Secrecy.{Agree, Apart, addresses, Secret}

-- a store leaves the same byte in two memories of one length
stored : (m₁ m₂ : List ℕ) (a b : ℕ) → length m₁ ≡ length m₂ → get_or (set m₁ a b) a 0 ≡ get_or (set m₂ a b) a 0
stored [] [] a b l = refl
stored [] (x ∷ m₂) a b l = absurd (omega arith)
stored (x ∷ m₁) [] a b l = absurd (omega arith)
stored (x ∷ m₁) (y ∷ m₂) zero b l = refl
stored (x ∷ m₁) (y ∷ m₂) (suc a) b l = stored m₁ m₂ a b (omega arith)

-- memories that agree still do after a store, and on its address too
agree_set : (Q : ℕ → Type 0) (m₁ m₂ : List ℕ) (a b : ℕ) → Agree Q m₁ m₂ → Agree (λ x. (x ≡ a) ⊎ Q x) (set m₁ a b) (set m₂ a b)
agree_set Q m₁ m₂ a b g =
    record { lengths = length-set m₁ a b ∙ g.lengths ∙ sym (length-set m₂ a b); same = λ x. ⊎_elim (at x) (λ q. go x q (ℕ_discrete x a)) }
  where
    at : (x : ℕ) → x ≡ a → get_or (set m₁ a b) x 0 ≡ get_or (set m₂ a b) x 0
    at x e = subst (λ (y : ℕ). get_or (set m₁ a b) y 0 ≡ get_or (set m₂ a b) y 0) (sym e) (stored m₁ m₂ a b g.lengths)

    go : (x : ℕ) → Q x → Dec (x ≡ a) → get_or (set m₁ a b) x 0 ≡ get_or (set m₂ a b) x 0
    go x q (yes e) = at x e
    go x q (no n) = get_or-set_other m₁ a x b 0 n ∙ g.same x q ∙ sym (get_or-set_other m₂ a x b 0 n)

-- .. and stay apart from where they began
apart_set : (s₁ s₂ m₁ m₂ : List ℕ) (a b : ℕ) → length m₁ ≡ length m₂ → Apart s₁ s₂ m₁ m₂ → Apart s₁ s₂ (set m₁ a b) (set m₂ a b)
apart_set s₁ s₂ m₁ m₂ a b l k x = go (ℕ_discrete x a)
  where
    go : Dec (x ≡ a)
        → (get_or (set m₁ a b) x 0 ≡ get_or (set m₂ a b) x 0)
        ⊎ ((get_or (set m₁ a b) x 0 ≡ get_or s₁ x 0) × (get_or (set m₂ a b) x 0 ≡ get_or s₂ x 0))
    go (yes e) = inl (subst (λ (y : ℕ). get_or (set m₁ a b) y 0 ≡ get_or (set m₂ a b) y 0) (sym e) (stored m₁ m₂ a b l))
    go (no n) = rw (get_or-set_other m₁ a x b 0 n, get_or-set_other m₂ a x b 0 n) (k x)

module _ (L : List ℕ → ℕ → Type 0) (S : List ℕ → ℕ → ℕ → Type 0) where
  -- the answer, and the memory then
  ended : {A : Type 0} (E : List ℕ → A → Type 0) (b : ℕ → Type 0) (s : ℕ → ℕ → Type 0) (p : Bus A) (m : List ℕ) → Keeps L S E b s p m
      → E (run p m).memory (run p m).answer
  unfolding Keeps run
  ended E b s (done a) m h = h
  ended E b s (load a k) m h = ended E b s (k (get_or m a 0)) m h.1
  ended E b s (store a x p) m h = ended E (λ y. (y ≡ a) ⊎ (b y ⊎ L m y)) (λ y z. s y z ⊎ S m y z) p (set m a x) h.1

  pub within_ends : {A : Type 0} (E : List ℕ → A → Type 0) (p : Bus A) (m : List ℕ) → Within L S E p m → E (run p m).memory (run p m).answer
  within_ends E p m = ended E _ _ p m

  -- where I holds of a memory at the start, and each store that is allowed keeps it so
  module _ (I : List ℕ → Type 0) (holds : (m m' : List ℕ) (a b : ℕ) → I m → S m a b → I m' → I (set m' a b)) where
    -- "what is not in S stays"
    module _ (T : ℕ → Type 0) (within : (m : List ℕ) (a b : ℕ) → I m → S m a b → T a) where
      elsewhere : {A : Type 0} (E : List ℕ → A → Type 0) (b : ℕ → Type 0) (s : ℕ → ℕ → Type 0) (p : Bus A) (m : List ℕ)
          → ((x y : ℕ) → s x y → T x × ((m : List ℕ) → I m → I (set m x y))) → I m → Keeps L S E b s p m
          → (x : ℕ) → (T x → ⊥) → get_or (run p m).memory x 0 ≡ get_or m x 0
      unfolding Keeps run
      elsewhere E b s (done a) m f i h x n = refl
      elsewhere E b s (load a k) m f i h x n = elsewhere E b s (k (get_or m a 0)) m f i h.1 x n
      elsewhere E b s (store a v p) m f i h x n =
          let may : T a × ((m : List ℕ) → I m → I (set m a v)) =
          ⊎_elim (λ (q : s a v). f a v q) (λ (q : S m a v). (within m a v i q, λ m' j. holds m m' a v i q j)) h.0 in
          elsewhere E (λ y. (y ≡ a) ⊎ (b y ⊎ L m y)) (λ y z. s y z ⊎ S m y z) p (set m a v)
          (λ y w. ⊎_elim (λ (q : s y w). f y w q) (λ (q : S m y w). (within m y w i q, λ m' j. holds m m' y w i q j))) (may.1 m i) h.1 x n
          ∙ get_or-set_other m a x v 0 (λ e. n (subst T (sym e) may.0))

      pub stays : {A : Type 0} (E : List ℕ → A → Type 0) (p : Bus A) (m : List ℕ) → I m → Within L S E p m
          → (x : ℕ) → (T x → ⊥) → get_or (run p m).memory x 0 ≡ get_or m x 0
      stays E p m = elsewhere E _ _ p m (λ x y. absurd)

    -- demand 3 of a program: on two memories that agree on Q, where only addresses of Q may be loaded
    module _ (Q : ℕ → Type 0) (within : (m : List ℕ) (a : ℕ) → I m → L m a → Q a) where
      -- what it leaves of memories that began as s₁ and s₂
      record Told {A : Type 0} (s₁ s₂ : List ℕ) (p : Bus A) (m₁ m₂ : List ℕ) : Type 0 where
        answers : (run p m₁).answer ≡ (run p m₂).answer
        transfers : addresses p m₁ ≡ addresses p m₂
        bytes : Apart s₁ s₂ (run p m₁).memory (run p m₂).memory

      along : {A : Type 0} (E : List ℕ → A → Type 0) (s₁ s₂ : List ℕ) (R b : ℕ → Type 0) (s : ℕ → ℕ → Type 0) (p : Bus A) (m₁ m₂ : List ℕ)
          → ((x : ℕ) → Q x ⊎ b x → R x) → ((x y : ℕ) → s x y → (m : List ℕ) → I m → I (set m x y)) → I m₁ → Keeps L S E b s p m₁
          → Agree R m₁ m₂ → Apart s₁ s₂ m₁ m₂ → Told s₁ s₂ p m₁ m₂
      unfolding Keeps run addresses
      along E s₁ s₂ R b s (done a) m₁ m₂ f g i h e k = record { answers = refl; transfers = refl; bytes = k }
      along E s₁ s₂ R b s (load a p) m₁ m₂ f g i h e k =
          let known : R a = ⊎_elim (λ (q : b a). f a (inr q)) (λ (q : L m₁ a). f a (inl (within m₁ a i q))) h.0 in
          let byte : get_or m₁ a 0 ≡ get_or m₂ a 0 = e.same a known in
          let rest : Told s₁ s₂ (p (get_or m₁ a 0)) m₁ m₂ = along E s₁ s₂ R b s (p (get_or m₁ a 0)) m₁ m₂ f g i h.1 e k in
          record {
            answers = subst (λ (x : ℕ). (run (p (get_or m₁ a 0)) m₁).answer ≡ (run (p x) m₂).answer) byte rest.answers;
            transfers = subst (λ (x : ℕ). (a ∷ addresses (p (get_or m₁ a 0)) m₁) ≡ (a ∷ addresses (p x) m₂)) byte (ap (λ (l : List ℕ). a ∷ l) rest.transfers);
            bytes = subst (λ (x : ℕ). Apart s₁ s₂ (run (p (get_or m₁ a 0)) m₁).memory (run (p x) m₂).memory) byte rest.bytes;
          }
      along E s₁ s₂ R b s (store a v p) m₁ m₂ f g i h e k =
          let held : I (set m₁ a v) = ⊎_elim (λ (q : s a v). g a v q m₁ i) (λ (q : S m₁ a v). holds m₁ m₁ a v i q i) h.0 in
          let rest : Told s₁ s₂ p (set m₁ a v) (set m₂ a v) =
          along E s₁ s₂ (λ x. (x ≡ a) ⊎ R x) (λ y. (y ≡ a) ⊎ (b y ⊎ L m₁ y)) (λ y z. s y z ⊎ S m₁ y z) p (set m₁ a v) (set m₂ a v)
          (λ x. ⊎_elim (λ (q : Q x). inr (f x (inl q)))
          (λ (q : (x ≡ a) ⊎ (b x ⊎ L m₁ x)). ⊎_elim (λ (c : x ≡ a). inl c)
          (λ (c : b x ⊎ L m₁ x). inr (⊎_elim (λ (d : b x). f x (inr d)) (λ (d : L m₁ x). f x (inl (within m₁ x i d))) c)) q))
          (λ x y. ⊎_elim (λ (q : s x y). g x y q) (λ (q : S m₁ x y). λ m j. holds m₁ m x y i q j)) held h.1
          (agree_set R m₁ m₂ a v e) (apart_set s₁ s₂ m₁ m₂ a v e.lengths k) in
          record { answers = rest.answers; transfers = ap (λ (l : List ℕ). a ∷ l) rest.transfers; bytes = rest.bytes }

      pub secret : {A : Type 0} (E : List ℕ → A → Type 0) (p : Bus A) (m₁ m₂ : List ℕ) → I m₁ → Within L S E p m₁ → Agree Q m₁ m₂ → Secret p m₁ m₂
      secret E p m₁ m₂ i h e =
          let t : Told m₁ m₂ p m₁ m₂ =
          along E m₁ m₂ Q _ _ p m₁ m₂ (λ x. ⊎_elim (λ (q : Q x). q) (λ (q : ⊥). absurd q)) (λ x y. absurd) i h e (λ a. inr (refl, refl)) in
          record { answers = t.answers; transfers = t.transfers; bytes = t.bytes }
