-- What running comes to: laws by which a proof follows a bus program without opening it.
use mathlib.Core.Path.{◌≡◌, refl, sym, ap, ◌∙◌}
use mathlib.Core.List.{List, [], ◌∷◌}
use mathlib.Core.Bool.{Bool, true, false}
use Prim.Native.Nat.{ℕ, zero, suc, ◌≤◌, ◌<◌}
use lib.Dec.{eqb, ltb}
use borrow.Author.Tests.{lt-ltb, le-ltb, eq-eqb, ne_eqb}
use lib.ListN.{length, length-set, get_or, set}
use Rattle.std.specs.Prelude.{if◌then◌else◌}
use Rattle.bus.specs.Words.{joined, part, words_at, overwritten}
use Rattle.bus.specs.Bus.{Bus, done, load, store, Ended, run, ◌>>=◌, reads, bytes, words}

-- a program that is done
pub run_done : {A : Type 0} (a : A) (m : List ℕ) → run (done a) m ≡ record { answer = a; memory = m }
unfolding run
run_done a m = refl

-- a program after another runs on what the first leaves
pub run_then : {A B : Type 0} (p : Bus A) (k : A → Bus B) (m : List ℕ) → run (p >>= k) m ≡ run (k (run p m).answer) (run p m).memory
unfolding run ◌>>=◌
run_then (done a) k m = refl
run_then (load a f) k m = run_then (f (get_or m a 0)) k m
run_then (store a b p) k m = run_then p k (set m a b)

-- .. so, where it is known what the first leaves
pub after : {A B : Type 0} (p : Bus A) (k : A → Bus B) (m m' : List ℕ) (a : A)
    → run p m ≡ record { answer = a; memory = m' } → run (p >>= k) m ≡ run (k a) m'
after p k m m' a e = run_then p k m ∙ ap (λ (x : Ended _). run (k x.answer) x.memory) e

-- .. with an answer that is known by another name
pub run_gives : {A : Type 0} (a b : A) (m : List ℕ) → b ≡ a → run (done a) m ≡ record { answer = b; memory = m }
unfolding run
run_gives a b m e = ap (λ (x : _). record { answer = x; memory = m }) (sym e)

-- the way that a test takes
module _ {A : Type 0} where
  pub run_if : (b : Bool) (p q : Bus A) (m : List ℕ) → b ≡ true → run (if b then p else q) m ≡ run p m
  run_if b p q m e = rw e

  pub run_else : (b : Bool) (p q : Bus A) (m : List ℕ) → b ≡ false → run (if b then p else q) m ≡ run q m
  run_else b p q m e = rw e

  -- .. to what it leaves: `search ways` follows a chain of tests
  module _ (p q : Bus A) (m : List ℕ) (e : Ended A) where
    pub way_true : (b : Bool) → b ≡ true → run p m ≡ e → run (if b then p else q) m ≡ e
    way_true b t h = run_if b p q m t ∙ h

    pub way_false : (b : Bool) → b ≡ false → run q m ≡ e → run (if b then p else q) m ≡ e
    way_false b t h = run_else b p q m t ∙ h

    -- .. of a test that the code made by a call
    pub way_yes : (t b : Bool) → t ≡ b → t ≡ true → run p m ≡ e → run (if b then p else q) m ≡ e
    way_yes t b n h = way_true b (sym n ∙ h)

    pub way_no : (t b : Bool) → t ≡ b → t ≡ false → run q m ≡ e → run (if b then p else q) m ≡ e
    way_no t b n h = way_false b (sym n ∙ h)

    pub way_eq : (x y : ℕ) → x ≡ y → run p m ≡ e → run (if eqb x y then p else q) m ≡ e
    way_eq x y t = way_true (eqb x y) (eq-eqb x y t)

    pub way_ne : (x y : ℕ) → (x ≡ y → ⊥) → run q m ≡ e → run (if eqb x y then p else q) m ≡ e
    way_ne x y t = way_false (eqb x y) (ne_eqb x y t)

    pub way_lt : (x y : ℕ) → x < y → run p m ≡ e → run (if ltb x y then p else q) m ≡ e
    way_lt x y t = way_true (ltb x y) (lt-ltb x y t)

    pub way_ge : (x y : ℕ) → y ≤ x → run q m ≡ e → run (if ltb x y then p else q) m ≡ e
    way_ge x y t = way_false (ltb x y) (le-ltb x y t)

pub ruleset ways = (way_true, way_false, way_yes, way_no, way_eq, way_ne, way_lt, way_ge, run_gives)

-- reading gives the bytes that the memory has, and leaves it
pub run_reads : (a k : ℕ) (m : List ℕ) → run (reads a k) m ≡ record { answer = part m a k; memory = m }
unfolding run reads part ◌>>=◌
run_reads a zero m = refl
run_reads a (suc k) m =
    after (reads (suc a) k) (λ bs. done (get_or m a 0 ∷ bs)) m m (part m (suc a) k) (run_reads (suc a) k m)

-- storing leaves the bytes in their places
pub run_bytes : (a : ℕ) (bs m : List ℕ) → run (bytes a bs) m ≡ record { answer = tt; memory = overwritten m a bs }
unfolding run bytes overwritten
run_bytes a [] m = refl
run_bytes a (b ∷ bs) m = run_bytes (suc a) bs (set m a b)

-- .. and so with words
pub run_words : (k a : ℕ) (m : List ℕ) → run (words a k) m ≡ record { answer = words_at m a k; memory = m }
unfolding run words words_at ◌>>=◌
run_words zero a m = refl
run_words (suc k) a m =
    after (words (suc (suc a)) k) (λ ws. done (joined (get_or m a 0) (get_or m (suc a) 0) ∷ ws)) m m (words_at m (suc (suc a)) k)
    (run_words k (suc (suc a)) m)

-- a program leaves as much memory as it found
run_length : {A : Type 0} (p : Bus A) (m : List ℕ) → length (run p m).memory ≡ length m
unfolding run
run_length (done a) m = refl
run_length (load a k) m = run_length (k (get_or m a 0)) m
run_length (store a b p) m = run_length p (set m a b) ∙ length-set m a b
