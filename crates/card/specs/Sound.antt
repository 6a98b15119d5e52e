-- "Sound means": the sentence of document 01, clause by clause. ERR and INTR are no part of the state, so they agree with
-- their causes.
use Rattle.std.specs.Prelude.{ℕ, zero, suc, Bool, true, not, ◌&&◌, List, get_or, eqb}
use Rattle.std.specs.Prelude.{if◌then◌else◌}
use Rattle.ring.specs.Loading.{unloaded, loaded}
use Rattle.registers.specs.Csr0.{sound_csr0}
use Rattle.registers.specs.Table.{settled}
use Rattle.card.specs.declared.Card.{Card}

-- the first k of some numbers are 0
unfoldable pub zeros : ℕ → List ℕ → Bool
zeros zero l = true
zeros (suc k) l = zeros k l && eqb (get_or l k 0) 0

-- "before a successful initialization STRT is clear and mode, address, filter, rings and slots are 0"
unfoldable pub before : Card → Bool
before c =
    not c.csr0.strt && eqb c.mode 0 && zeros 6 c.address && zeros 4 c.filter && unloaded c.receive && unloaded c.transmit

-- "after one, each ring .."
unfoldable pub afterwards : Card → Bool
afterwards c = loaded c.receive && loaded c.transmit

-- one or the other
unfoldable pub fitting : Card → Bool
fitting c = if c.initialized then afterwards c else before c

-- the whole sentence
unfoldable pub sound : Card → Bool
sound c = sound_csr0 c.csr0 && settled c.written && fitting c
