-- "One sound state has one block", and one block one state: words come back from bytes, and the state from words.
use mathlib.Core.Path.{◌≡◌, refl, sym, ap, ap₂, ◌∙◌}
use mathlib.Core.Bool.{Bool, true, false, and-eq-true_iff}
use mathlib.Core.List.{List, [], ◌∷◌, ◌++◌, append_assoc}
use Prim.Native.Nat.{ℕ, zero, suc, ◌+◌, ◌*◌, ◌/◌, ◌%◌, ◌^◌, ◌<◌, suc-le-suc}
use native.Mathlib.Nat.{pow-succ', not-suc-le-zero, le_of_suc-le-suc, add-zero, zero-add}
use native.Mathlib.Omega.{arith}
use lib.ListN.{length, get_or, take, drop, length-drop, get_or-append, take-append-drop}
use lib.Seq.{length-take-le, take_all, take_at, drop_at, ext_get_or, get_or-take, get_or-drop}
use lib.Dec.{eqb}
use borrow.Author.Tests.{eq-eqb, eqb-true}
use Rattle.fcs.specs.Fcs.{fcs_of, both, right_fcs}
use Rattle.bus.specs.Bits.{weigh}
use Rattle.bus.specs.Words.{joined, little, bytes_of, part, words_at}
use Rattle.bus.proofs.Bytes.{part_is}
use Rattle.ring.specs.declared.Ring.{Ring}
use Rattle.ring.specs.Slots.{ring_of}
use Rattle.registers.proofs.Bits.{csr0_back, word_small}
use Rattle.card.specs.declared.Card.{Card}
use Rattle.card.specs.State.{WORDS, state_words, state_of}
use Rattle.card.specs.Sound.{sound}
use Rattle.block.specs.Block.{BYTES, CHECKED, word_bytes, unused, body_of, block_of, state_in, holds, opens}
use Rattle.block.proofs.Places.{length_body, length_block}
use Rattle.block.proofs.Opens.{opened_long, opened_right, opened_holds}

-- numbers that fit the types of a ring's fields, and of a state's
pub record RingFits (r : Ring) : Type 0 where
  pub base : r.base < 4294967296
  pub length : r.length < 65536
  pub slot : r.slot.0 < 65536

pub record Fits (c : Card) : Type 0 where
  pub rap : c.written.rap < 65536
  pub csr1 : c.written.csr1 < 65536
  pub csr2 : c.written.csr2 < 65536
  pub csr3 : c.written.csr3 < 65536
  pub missed : c.missed < 65536
  pub mode : c.mode < 65536
  pub six : length c.address ≡ 6
  pub address : (k : ℕ) → get_or c.address k 0 < 256
  pub four : length c.filter ≡ 4
  pub filter : (k : ℕ) → get_or c.filter k 0 < 65536
  pub receive : RingFits c.receive
  pub transmit : RingFits c.transmit

-- a bit comes back from its word, two bytes and a ring from theirs, and a list from its elements
bit_back : (b : Bool) → eqb (weigh b 1 % 2) 1 ≡ b
unfolding weigh
bit_back true = refl
bit_back false = refl

bytes_back : (x y : ℕ) → x < 256 → y < 256 → bytes_of 2 (joined x y) ≡ (x ∷ (y ∷ []))
unfolding bytes_of
bytes_back x y h k =
    let u : (x + 256 * y) / 256 % 256 ≡ y = omega arith in
    let l : (x + 256 * y) % 256 ≡ x = omega arith in
    rw (l, u)

ring_back : (r : Ring) → RingFits r → ring_of (r.base % 65536) (r.base / 65536 % 65536) r.length r.slot.0 ≡ r
ring_back r f = let e : r.base % 65536 + 65536 * (r.base / 65536 % 65536) ≡ r.base = omega (arith, f.base) in rw e

list_back : (k : ℕ) (l : List ℕ) → length l ≡ k → part l 0 k ≡ l
list_back k l e = part_is k 0 l (omega arith) ∙ take_all k l (omega arith)

-- so a state comes back from its words
words_back : (c : Card) → Fits c → state_of (state_words c) ≡ c
unfolding state_of state_words part
words_back c f =
    rw (
      csr0_back c.csr0 c.written.csr3,
      bit_back c.initialized,
      bytes_back (a 0) (a 1) (f.address 0) (f.address 1),
      bytes_back (a 2) (a 3) (f.address 2) (f.address 3),
      bytes_back (a 4) (a 5) (f.address 4) (f.address 5),
      list_back 6 c.address f.six,
      list_back 4 c.filter f.four,
      ring_back c.receive f.receive,
      ring_back c.transmit f.transmit,
    )
  where
    a : ℕ → ℕ
    a k = get_or c.address k 0

-- a state's words: how many, and each below 65,536
state_long : (c : Card) → length (state_words c) ≡ WORDS
unfolding state_words
state_long c = refl

abbrev Small : List ℕ → Type 0
Small [] = Unit {0}
Small (w ∷ ws) = (w < 65536) × Small ws

bit_small : (b : Bool) → weigh b 1 < 65536
unfolding weigh
bit_small true = omega arith
bit_small false = omega arith

state_small : (c : Card) → Fits c → Small (state_words c)
unfolding state_words
state_small c f =
    omega (
      arith,
      word_small c.csr0 c.written.csr3,
      bit_small c.initialized,
      f.address 0,
      f.address 1,
      f.address 2,
      f.address 3,
      f.address 4,
      f.address 5,
      f.filter 0,
      f.filter 1,
      f.filter 2,
      f.filter 3,
    )

-- words come back from their bytes
words_behind : (k a x : ℕ) (m : List ℕ) → words_at (x ∷ m) (suc a) k ≡ words_at m a k
unfolding words_at
words_behind zero a x m = refl
words_behind (suc k) a x m = ap (◌∷◌ (joined (get_or m a 0) (get_or m (suc a) 0))) (words_behind k (suc (suc a)) x m)

words_there : (ws bs : List ℕ) → Small ws → words_at (word_bytes ws ++ bs) 0 (length ws) ≡ ws
unfolding words_at word_bytes bytes_of
words_there [] bs s = refl
words_there (w ∷ ws) bs s =
    let e : w % 256 + 256 * (w / 256 % 256) ≡ w = omega (arith, s.0) in
    ap₂ ◌∷◌ e
    (words_behind (length ws) 1 (w % 256) (w / 256 % 256 ∷ (word_bytes ws ++ bs))
    ∙ words_behind (length ws) 0 (w / 256 % 256) (word_bytes ws ++ bs) ∙ words_there ws bs s.1)

-- so a state comes back from its block
pub state_back : (c : Card) → Fits c → state_in (block_of c) ≡ c
unfolding state_in block_of body_of
state_back c f =
    let ends : List ℕ = unused ++ bytes_of 4 (fcs_of (body_of c)) in
    let e : words_at (block_of c) 0 WORDS ≡ state_words c =
    ap₂ (λ (l : List ℕ) (k : ℕ). words_at l 0 k) (append_assoc (word_bytes (state_words c)) unused (bytes_of 4 (fcs_of (body_of c)))) (sym (state_long c))
    ∙ words_there (state_words c) ends (state_small c f) in
    ap state_of e ∙ words_back c f

-- bytes that are there, one by one
holds_of : (xs b : List ℕ) (i : ℕ) → ((k : ℕ) → k < length xs → get_or b (i + k) 0 ≡ get_or xs k 0) → holds b i xs ≡ true
unfolding holds
holds_of [] b i h = refl
holds_of (x ∷ xs) b i h =
    rw (eq-eqb (get_or b i 0) x (ap (λ (j : ℕ). get_or b j 0) (sym (add-zero i)) ∙ h 0 (omega arith)))
    (holds_of xs b (suc i)
    (λ k l. let e : suc i + k ≡ i + suc k = omega arith in ap (λ (j : ℕ). get_or b j 0) e ∙ h (suc k) (suc-le-suc l)))

of_holds : (xs b : List ℕ) (i : ℕ) → holds b i xs ≡ true → (k : ℕ) → k < length xs → get_or b (i + k) 0 ≡ get_or xs k 0
unfolding holds
of_holds [] b i h k l = absurd (not-suc-le-zero l)
of_holds (x ∷ xs) b i h zero l =
    ap (λ (j : ℕ). get_or b j 0) (add-zero i) ∙ eqb-true (get_or b i 0) x ((and-eq-true_iff (eqb (get_or b i 0) x) (holds b (suc i) xs)).0 h).0
of_holds (x ∷ xs) b i h (suc k) l =
    let e : i + suc k ≡ suc i + k = omega arith in
    ap (λ (j : ℕ). get_or b j 0) e ∙ of_holds xs b (suc i) ((and-eq-true_iff (eqb (get_or b i 0) x) (holds b (suc i) xs)).0 h).1 k (le_of_suc-le-suc l)

-- bytes come back from their number, and their number from bytes
little_back : (k x : ℕ) → x < 256 ^ k → little (bytes_of k x) ≡ x
unfolding little bytes_of
little_back zero x h = omega arith
little_back (suc k) x h =
    let l : x / 256 < 256 ^ k = omega (arith, pow-succ' 256 k) in
    ap (λ (y : ℕ). x % 256 + 256 * y) (little_back k (x / 256) l) ∙ omega arith

of_little : (bs : List ℕ) → ((k : ℕ) → get_or bs k 0 < 256) → bytes_of (length bs) (little bs) ≡ bs
unfolding little bytes_of
of_little [] h = refl
of_little (b ∷ bs) h =
    let l : (b + 256 * little bs) % 256 ≡ b = omega (arith, h 0) in
    let u : (b + 256 * little bs) / 256 ≡ little bs = omega (arith, h 0) in
    ap₂ ◌∷◌ l (ap (bytes_of (length bs)) u ∙ of_little bs (λ k. h (suc k)))

-- the check of a block, and an FCS has 32 bits
right_is : (b : List ℕ) → length b ≡ BYTES → right_fcs b ≡ eqb (little (drop CHECKED b)) (fcs_of (take CHECKED b))
unfolding right_fcs both
right_is b n = rw n

fcs_small : (bs : List ℕ) → fcs_of bs < 256 ^ 4
unfolding fcs_of
fcs_small bs = omega arith

-- the block of a state has the right check and its bytes
block_right : (c : Card) → right_fcs (block_of c) ≡ true
unfolding block_of
block_right c =
    right_is (block_of c) (length_block c)
    ∙ rw (
      take_at (body_of c) (bytes_of 4 (fcs_of (body_of c))) CHECKED (length_body c),
      drop_at (body_of c) (bytes_of 4 (fcs_of (body_of c))) CHECKED (length_body c),
    )
    (eq-eqb _ _ (little_back 4 (fcs_of (body_of c)) (fcs_small (body_of c))))

block_holds : (c : Card) → holds (block_of c) 0 (body_of c) ≡ true
unfolding block_of
block_holds c =
    holds_of (body_of c) (block_of c) 0
    (λ k l. ap (λ (j : ℕ). get_or (block_of c) j 0) (zero-add k) ∙ get_or-append (body_of c) (bytes_of 4 (fcs_of (body_of c))) 0 k l)

-- the block of a sound state opens
pub opens_back : (c : Card) → Fits c → sound c ≡ true → opens (block_of c) ≡ true
unfolding opens
opens_back c f s =
    rw (eq-eqb (length (block_of c)) BYTES (length_block c), block_right c, state_back c f, block_holds c) s

-- a block that opens is that of its state
module _ (b : List ℕ) (o : opens b ≡ true) where
  same_body : take CHECKED b ≡ body_of (state_in b)
  same_body =
      let n : length b ≡ BYTES = opened_long b o in
      let m : length (take CHECKED b) ≡ CHECKED = length-take-le CHECKED b (omega arith) in
      ext_get_or 0 (take CHECKED b) (body_of (state_in b)) (m ∙ sym (length_body (state_in b)))
      (λ k l. get_or-take CHECKED b k 0 (omega arith) ∙ ap (λ (j : ℕ). get_or b j 0) (sym (zero-add k))
      ∙ of_holds (body_of (state_in b)) b 0 (opened_holds b o) k (omega (arith, length_body (state_in b))))

  module _ (small : (k : ℕ) → get_or b k 0 < 256) where
    same_end : drop CHECKED b ≡ bytes_of 4 (fcs_of (take CHECKED b))
    same_end =
        let n : length b ≡ BYTES = opened_long b o in
        let k : length (drop CHECKED b) ≡ 4 = length-drop CHECKED b ∙ omega arith in
        let r : little (drop CHECKED b) ≡ fcs_of (take CHECKED b) = eqb-true _ _ (sym (right_is b n) ∙ opened_right b o) in
        sym (of_little (drop CHECKED b) (λ i. rw (get_or-drop CHECKED b i 0) (small (CHECKED + i)))) ∙ ap₂ bytes_of k r

    pub block_back : b ≡ block_of (state_in b)
    unfolding block_of
    block_back =
        sym (take-append-drop CHECKED b) ∙ ap₂ ◌++◌ same_body (same_end ∙ ap (λ (l : List ℕ). bytes_of 4 (fcs_of l)) same_body)

-- so one state has one block, and one block one state
pub one_block : (a b : List ℕ) → opens a ≡ true → opens b ≡ true → ((k : ℕ) → get_or a k 0 < 256) → ((k : ℕ) → get_or b k 0 < 256)
    → state_in a ≡ state_in b → a ≡ b
one_block a b oa ob sa sb e = block_back a oa sa ∙ ap block_of e ∙ sym (block_back b ob sb)

pub one_state : (c d : Card) → Fits c → Fits d → block_of c ≡ block_of d → c ≡ d
one_state c d fc fd e = sym (state_back c fc) ∙ ap state_in e ∙ state_back d fd
