-- Demand 3's premise: the bytes of memory on which a call may depend.
use Rattle.std.specs.Prelude.{ℕ, ◌+◌, ◌≤◌, ◌<◌, List}
use Rattle.ring.specs.Places.{InRing, InBuffer}
use Rattle.card.specs.declared.Card.{Card}
use Rattle.card.specs.Initialization.{block_address}

-- "the initialization block, every descriptor of both rings and the buffers of transmit descriptors the card owns"
pub data Premise (c : Card) (m : List ℕ) (a : ℕ) : Type 0 where
  block : block_address c ≤ a → a < block_address c + 24 → Premise c m a
  receiving : InRing c.receive a → Premise c m a
  transmitting : InRing c.transmit a → Premise c m a
  sending : InBuffer c.transmit m a → Premise c m a
