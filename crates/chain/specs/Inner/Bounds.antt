-- What a chain's numbers are at most, so that the code's sums fit.
use Rattle.std.specs.Prelude.{◌≤◌}
use Rattle.ring.specs.declared.Descriptor.{Descriptor}
use Rattle.chain.specs.declared.Reach.{Reach}

-- a descriptor's byte count is 1 to 4,096
pub record Counted (d : Descriptor) : Type 0 where
  pub some : 1 ≤ d.count
  pub most : d.count ≤ 4096

-- a chain that goes on has at most 4,096 bytes, and a byte or more to each slot
pub record Within (r : Reach) : Type 0 where
  pub few : r.slots ≤ r.total
  pub most : r.total ≤ 4096
