-- The slots of a chain as they lie in memory, and the bytes of their buffers.
use Rattle.std.specs.Prelude.{ℕ, zero, suc, ◌+◌, ◌≤◌, ◌<◌, List, [], ◌++◌, length}
use Rattle.bus.specs.Words.{part}
use Rattle.ring.specs.declared.Slot.{Slot}
use Rattle.ring.specs.declared.Ring.{Ring}
use Rattle.ring.specs.Slots.{next, place}
use Rattle.ring.specs.Places.{descriptor}
use Rattle.chain.specs.declared.Close.{Close}
use Rattle.chain.specs.declared.Close.TheVariants.{Whole, Memory, Short, Long}

-- the slot that comes k slots after slot i
unfoldable pub later : Ring → ℕ → Slot → Slot
later r zero i = i
later r (suc k) i = later r k (next r i)

-- in the memory m
module _ (m : List ℕ) (r : Ring) where
  -- the bytes of a slot's buffer, and of those of k slots
  unfoldable pub buffer : Slot → List ℕ
  buffer i = part m (descriptor r m i).address (descriptor r m i).count

  unfoldable pub buffers : ℕ → Slot → List ℕ
  buffers zero i = []
  buffers (suc k) i = buffer i ++ buffers k (next r i)

  -- a slot whose descriptor and buffer are inside
  pub record Inside (i : Slot) : Type 0 where
    pub placed : place r i + 8 ≤ length m
    pub filled : (descriptor r m i).address + (descriptor r m i).count ≤ length m

  -- .. and k such slots
  pub record Laid (k : ℕ) (i : Slot) : Type 0 where
    pub at : (x : ℕ) → x < k → Inside (later r x i)

  -- a chain that can be given back, and one that can be sent
  pub record Given (k : ℕ) (i : Slot) : Type 0 where
    pub laid : Laid k i
    pub some : 0 < k

  pub record Sendable (k : ℕ) (i : Slot) : Type 0 where
    pub given : Given k i
    pub fits : length (buffers k i) ≤ 4096

  -- what is so of a chain when it was read, by how it ends
  unfoldable pub Ready : ℕ → Slot → Close → Type 0
  Ready k i Whole = Sendable k i
  Ready k i Memory = Unit {0}
  Ready k i Short = Given k i
  Ready k i Long = Given k i

-- k slots whose descriptors are inside a memory of n bytes
pub record Placed (n : ℕ) (r : Ring) (k : ℕ) (i : Slot) : Type 0 where
  pub at : (x : ℕ) → x < k → place r (later r x i) + 8 ≤ n
