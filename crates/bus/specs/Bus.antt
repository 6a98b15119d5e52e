-- Bus programs: what touches memory, as a tree of transfers of one byte each, in their order.
use Rattle.std.specs.Prelude.{ℕ, zero, suc, List, [], ◌∷◌, get_or, set}
use Rattle.bus.specs.Words.{joined, filled}

-- a program that ends with an answer, loads the byte at an address, or stores one there
pub data Bus (A : Type 0) : Type 0 where
  done : A → Bus A
  load : ℕ → (ℕ → Bus A) → Bus A
  store : ℕ → ℕ → Bus A → Bus A

-- what a program leaves: its answer and the memory
pub record Ended (A : Type 0) : Type 0 where
  pub answer : A
  pub memory : List ℕ

-- the program on a memory that nothing else touches
unfoldable pub run : {A : Type 0} → Bus A → List ℕ → Ended A
run (done a) m = record { answer = a; memory = m }
run (load a k) m = run (k (get_or m a 0)) m
run (store a b p) m = run p (set m a b)

infixl 10 ◌>>=◌
infixl 10 ◌>>◌
-- one program, then what its answer asks for
unfoldable pub ◌>>=◌ : {A B : Type 0} → Bus A → (A → Bus B) → Bus B
done a >>= k = k a
load a f >>= k = load a (λ b. f b >>= k)
store a b p >>= k = store a b (p >>= k)

-- one program, then another
unfoldable pub ◌>>◌ : {A B : Type 0} → Bus A → Bus B → Bus B
p >> q = p >>= (λ a. q)

-- the bytes from an address on, rising
unfoldable pub reads : ℕ → ℕ → Bus (List ℕ)
reads a zero = done []
reads a (suc k) = load a (λ b. reads (suc a) k >>= (λ bs. done (b ∷ bs)))

-- bytes stored from an address on, rising
unfoldable pub bytes : ℕ → List ℕ → Bus (Unit {0})
bytes a [] = done tt
bytes a (b ∷ bs) = store a b (bytes (suc a) bs)

-- little-endian words from an address on
unfoldable pub words : ℕ → ℕ → Bus (List ℕ)
words a zero = done []
words a (suc k) = load a (λ low. load (suc a) (λ high. words (suc (suc a)) k >>= (λ ws. done (joined low high ∷ ws))))

-- an answer, and the frame that is handed out with it
pub record Handed (A : Type 0) : Type 0 where
  pub answer : A
  pub frame : List ℕ

-- an answer with which nothing is handed out
unfoldable pub empty_handed : {A : Type 0} → A → Handed A
empty_handed a = record { answer = a; frame = [] }

-- what is left when a program has run: its answer, the memory and the outgoing slice
pub record Left (A : Type 0) : Type 0 where
  pub answer : A
  pub memory : List ℕ
  pub out : List ℕ

-- "A frame handed out fills the outgoing slice from its start; no other byte of it changes."
unfoldable pub leaves : {A : Type 0} → Ended (Handed A) → List ℕ → Left A
leaves e out = record { answer = e.answer.answer; memory = e.memory; out = filled e.answer.frame out }
