-- How a program is shown to keep within bounds: part by part, as it is made.
use Prim.Native.Nat.{ℕ, zero, suc, ◌+◌, ◌*◌, ◌<◌, suc-le-suc}
use native.Mathlib.Nat.{suc-add, add-suc, add-zero, zero-lt-suc}
use native.Mathlib.Numerals.{add-one}
use native.Mathlib.Omega.{arith}
use mathlib.Core.Path.{◌≡◌, refl, sym, subst, ◌∙◌}
use mathlib.Core.Bool.{Bool}
use mathlib.Core.Logic.{◌⊎◌, inl, inr, ⊎_elim}
use mathlib.Core.List.{List, [], ◌∷◌}
use lib.ListN.{length, get_or, set}
use Rattle.std.specs.Prelude.{if◌then◌else◌}
use Rattle.std.proofs.lemmas.Bool.{cond_both}
use Rattle.bus.specs.Words.{joined, part, words_at, overwritten}
use Rattle.bus.specs.Bus.{Bus, done, load, store, Ended, run, ◌>>=◌, ◌>>◌, reads, words, bytes}
use Rattle.bus.specs.Within.{Keeps, Within}
use Rattle.bus.proofs.Run.{run_reads}

-- what is so of two things is so of the one that a test chooses
module _ {A : Type 0} (P : A → Type 0) where
  pub so_if : (b : Bool) (x y : A) → P x → P y → P (if b then x else y)
  so_if b x y p q = cond_both b x y P (λ e. p) (λ e. q)

-- nothing was allowed before
pub none : {A B : Type 0} → ⊥ ⊎ B → A ⊎ B
none = ⊎_elim (λ (q : ⊥). absurd q) (λ q. inr q)

module _ (L : List ℕ → ℕ → Type 0) (S : List ℕ → ℕ → ℕ → Type 0) where
  -- more may be allowed
  pub keeps_more : {A : Type 0} (E : List ℕ → A → Type 0) (b₁ b₂ : ℕ → Type 0) (s₁ s₂ : ℕ → ℕ → Type 0) (p : Bus A) (m : List ℕ)
      → ((x : ℕ) → b₁ x ⊎ L m x → b₂ x ⊎ L m x) → ((x y : ℕ) → s₁ x y ⊎ S m x y → s₂ x y ⊎ S m x y) → Keeps L S E b₁ s₁ p m → Keeps L S E b₂ s₂ p m
  unfolding Keeps
  keeps_more E b₁ b₂ s₁ s₂ (done a) m f g k = k
  keeps_more E b₁ b₂ s₁ s₂ (load a h) m f g k = (f a k.0, keeps_more E b₁ b₂ s₁ s₂ (h (get_or m a 0)) m f g k.1)
  keeps_more E b₁ b₂ s₁ s₂ (store a b p) m f g k = (
    g a b k.0,
    keeps_more E (λ y. (y ≡ a) ⊎ (b₁ y ⊎ L m y)) (λ y. (y ≡ a) ⊎ (b₂ y ⊎ L m y)) (λ y z. s₁ y z ⊎ S m y z) (λ y z. s₂ y z ⊎ S m y z) p (set m a b)
        (λ x. ⊎_elim (λ (q : (x ≡ a) ⊎ (b₁ x ⊎ L m x)). inl (⊎_elim (λ (e : x ≡ a). inl e) (λ (r : b₁ x ⊎ L m x). inr (f x r)) q)) (λ (l : L (set m a b) x). inr l))
        (λ x y. ⊎_elim (λ (q : s₁ x y ⊎ S m x y). inl (g x y q)) (λ (l : S (set m a b) x y). inr l))
        k.1,
  )

  -- .. and less be known of the answer
  pub keeps_ends : {A : Type 0} (D E : List ℕ → A → Type 0) (b : ℕ → Type 0) (s : ℕ → ℕ → Type 0) (p : Bus A) (m : List ℕ)
      → ((m : List ℕ) (a : A) → D m a → E m a) → Keeps L S D b s p m → Keeps L S E b s p m
  unfolding Keeps
  keeps_ends D E b s (done a) m f k = f m a k
  keeps_ends D E b s (load a h) m f k = (k.0, keeps_ends D E b s (h (get_or m a 0)) m f k.1)
  keeps_ends D E b s (store a x p) m f k = (k.0, keeps_ends D E (λ y. (y ≡ a) ⊎ (b y ⊎ L m y)) (λ y z. s y z ⊎ S m y z) p (set m a x) f k.1)

  -- a program that is done
  pub within_done : {A : Type 0} (E : List ℕ → A → Type 0) (a : A) (m : List ℕ) → E m a → Within L S E (done a) m
  unfolding Keeps
  within_done E a m h = h

  -- a load, and a store
  pub within_load : {A : Type 0} (E : List ℕ → A → Type 0) (a : ℕ) (k : ℕ → Bus A) (m : List ℕ) → L m a → Within L S E (k (get_or m a 0)) m
      → Within L S E (load a k) m
  unfolding Keeps
  within_load E a k m l h = (inr l, h)

  pub within_store : {A : Type 0} (E : List ℕ → A → Type 0) (a b : ℕ) (p : Bus A) (m : List ℕ) → S m a b → Within L S E p (set m a b)
      → Within L S E (store a b p) m
  unfolding Keeps
  within_store E a b p m s h = (inr s, keeps_more E _ _ _ _ p (set m a b) (λ x. none) (λ x y. none) h)

  -- a program after another: what was allowed at the start of the first still is
  pub keeps_then : {A B : Type 0} (D : List ℕ → A → Type 0) (E : List ℕ → B → Type 0) (b : ℕ → Type 0) (s : ℕ → ℕ → Type 0) (p : Bus A) (k : A → Bus B)
      (m : List ℕ) → Keeps L S D b s p m
      → ((a : A) (m' : List ℕ) (b' : ℕ → Type 0) (s' : ℕ → ℕ → Type 0) → run p m ≡ record { answer = a; memory = m' } → D m' a
      → ((x : ℕ) → b x ⊎ L m x → b' x ⊎ L m' x) → ((x y : ℕ) → s x y ⊎ S m x y → s' x y ⊎ S m' x y) → Keeps L S E b' s' (k a) m')
      → Keeps L S E b s (p >>= k) m
  unfolding Keeps run ◌>>=◌
  keeps_then D E b s (done a) k m h next = next a m b s refl h (λ x q. q) (λ x y q. q)
  keeps_then D E b s (load a f) k m h next = (h.0, keeps_then D E b s (f (get_or m a 0)) k m h.1 next)
  keeps_then D E b s (store a v p) k m h next = (
    h.0,
    keeps_then D E (λ y. (y ≡ a) ⊎ (b y ⊎ L m y)) (λ y z. s y z ⊎ S m y z) p k (set m a v) h.1 (λ c m' b' s' e d f g. next c m' b' s' e d (λ x q. f x (inl (inr q))) (λ x y q. g x y (inl q))),
  )

  pub within_then : {A B : Type 0} (D : List ℕ → A → Type 0) (E : List ℕ → B → Type 0) (p : Bus A) (k : A → Bus B) (m : List ℕ) → Within L S D p m
      → ((a : A) (m' : List ℕ) → run p m ≡ record { answer = a; memory = m' } → D m' a → Within L S E (k a) m') → Within L S E (p >>= k) m
  within_then D E p k m h next =
      keeps_then D E _ _ p k m h (λ a m' b' s' e d f g. keeps_more E _ b' _ s' (k a) m' (λ x. none) (λ x y. none) (next a m' e d))

  -- .. which asks nothing of the first's answer
  pub within_next : {A B : Type 0} (E : List ℕ → B → Type 0) (p : Bus A) (q : Bus B) (m : List ℕ) → Within L S (λ m a. Unit {0}) p m
      → ((m' : List ℕ) → Within L S E q m') → Within L S E (p >> q) m
  unfolding ◌>>◌
  within_next E p q m h next = within_then (λ m a. Unit {0}) E p (λ a. q) m h (λ a m' r u. next m')

  -- reading the bytes from an address on
  pub within_reads : (E : List ℕ → List ℕ → Type 0) (a k : ℕ) (m : List ℕ) → ((i : ℕ) → i < k → L m (a + i)) → E m (part m a k)
      → Within L S E (reads a k) m
  unfolding Keeps reads part
  within_reads E a zero m h e = e
  within_reads E a (suc k) m h e = (
    inr (subst (L m) (add-zero a) (h 0 (zero-lt-suc k))),
    within_then (λ n bs. E n (get_or m a 0 ∷ bs)) E (reads (suc a) k) (λ bs. done (get_or m a 0 ∷ bs)) m
        (within_reads (λ n bs. E n (get_or m a 0 ∷ bs)) (suc a) k m (λ i l. subst (L m) (add-suc a i ∙ sym (suc-add a i)) (h (suc i) (suc-le-suc l))) e)
        (λ bs m' r d. within_done E (get_or m a 0 ∷ bs) m' d),
  )

  -- .. and what is then done with them
  pub within_read : {A : Type 0} (E : List ℕ → A → Type 0) (a k : ℕ) (next : List ℕ → Bus A) (m : List ℕ) → ((i : ℕ) → i < k → L m (a + i))
      → Within L S E (next (part m a k)) m → Within L S E (reads a k >>= next) m
  within_read E a k next m h w =
      within_then (λ m bs. Unit {0}) E (reads a k) next m (within_reads _ a k m h tt) (λ bs m' e u.
      subst (λ (x : Ended (List ℕ)). Within L S E (next x.answer) x.memory) (sym (run_reads a k m) ∙ e) w)

  -- .. and words
  pub within_words : (E : List ℕ → List ℕ → Type 0) (k a : ℕ) (m : List ℕ) → ((i : ℕ) → i < 2 * k → L m (a + i)) → E m (words_at m a k)
      → Within L S E (words a k) m
  unfolding Keeps words words_at
  within_words E zero a m h e = e
  within_words E (suc k) a m h e = (
    inr (subst (L m) (add-zero a) (h 0 (omega arith))),
    (
      inr (subst (L m) (add-one a) (h 1 (omega arith))),
      within_then (λ n ws. E n (joined (get_or m a 0) (get_or m (suc a) 0) ∷ ws)) E (words (suc (suc a)) k) _ m
          (within_words (λ n ws. E n (joined (get_or m a 0) (get_or m (suc a) 0) ∷ ws)) k (suc (suc a)) m (λ i l. let d : a + (i + 2) ≡ suc (suc a) + i = omega arith in subst (L m) d (h (i + 2) (omega arith))) e)
          (λ ws m' r d. within_done E _ m' d),
    ),
  )

  -- storing bytes: what is allowed at the first is allowed to the last
  pub keeps_bytes : (E : List ℕ → Unit {0} → Type 0) (b : ℕ → Type 0) (s : ℕ → ℕ → Type 0) (a : ℕ) (bs m : List ℕ)
      → ((i : ℕ) → i < length bs → s (a + i) (get_or bs i 0) ⊎ S m (a + i) (get_or bs i 0)) → E (overwritten m a bs) tt → Keeps L S E b s (bytes a bs) m
  unfolding Keeps bytes overwritten
  keeps_bytes E b s a [] m h e = e
  keeps_bytes E b s a (x ∷ bs) m h e = (
    subst (λ (c : ℕ). s c x ⊎ S m c x) (add-zero a) (h 0 (zero-lt-suc (length bs))),
    keeps_bytes E (λ y. (y ≡ a) ⊎ (b y ⊎ L m y)) (λ y z. s y z ⊎ S m y z) (suc a) bs (set m a x)
        (λ i l. inl (subst (λ (c : ℕ). s c (get_or bs i 0) ⊎ S m c (get_or bs i 0)) (add-suc a i ∙ sym (suc-add a i)) (h (suc i) (suc-le-suc l)))) e,
  )

  pub within_bytes : (E : List ℕ → Unit {0} → Type 0) (a : ℕ) (bs m : List ℕ) → ((i : ℕ) → i < length bs → S m (a + i) (get_or bs i 0))
      → E (overwritten m a bs) tt → Within L S E (bytes a bs) m
  within_bytes E a bs m h e = keeps_bytes E _ _ a bs m (λ i l. inr (h i l)) e
