-- The chain of descriptors of a frame: "From STP the chain is read to ENP, nothing being written till it is read." It is read from
-- the bottom: `read_chain` is the whole chain.
use Rattle.std.specs.Prelude.{ℕ, zero, suc, ◌+◌, ◌-◌, ltb}
use Rattle.std.specs.Prelude.{if◌then◌else◌}
use Rattle.std.specs.declared.ops.ControlFlow.{ControlFlow}
use Rattle.std.specs.declared.ops.ControlFlow.TheVariants.{Continue, Break}
use Rattle.bus.specs.Bits.{bit}
use Rattle.bus.specs.Bus.{Bus, done, ◌>>=◌}
use Rattle.ring.specs.declared.Slot.{Slot}
use Rattle.ring.specs.declared.Ring.{Ring}
use Rattle.ring.specs.declared.Descriptor.{Descriptor}
use Rattle.ring.specs.Slots.{slots, next}
use Rattle.ring.specs.Status.{ENP}
use Rattle.ring.specs.Descriptor.{look, by◌outside:◌not_owned:◌owned:◌}
use Rattle.chain.specs.declared.Reach.{Reach}
use Rattle.chain.specs.declared.Close.{Close}
use Rattle.chain.specs.declared.Close.TheVariants.{Whole, Memory, Short, Long}
use Rattle.chain.specs.declared.Closed.{Closed}

-- a chain that is being read: how far it goes on, or how it is over
abbrev pub Chain : Type 0
Chain = ControlFlow Closed Reach

abbrev pub over : Close → Reach → Chain
over e c = Break (record { close = e; reach = c })

-- a chain that reaches over one descriptor more
unfoldable pub further : Ring → Descriptor → Reach → Reach
further r d c = record { slot = next r c.slot; slots = c.slots + 1; total = c.total + d.count }

-- an owned descriptor, in a memory of n bytes: "buffer outside, MERR; total above 4,096, underflow here"; "A later STP is ignored."
unfoldable pub grow : ℕ → Ring → Descriptor → Reach → Chain
grow n r d c =
    if ltb n (d.address + d.count)
    then over Memory c
    else if ltb 4096 (c.total + d.count)
    then over Long (further r d c)
    else if bit d.status ENP then over Whole (further r d c) else Continue (further r d c)

-- ".. or ring used up, underflow at the slot before"
unfoldable pub closed : Chain → Closed
closed (Continue c) = record { close = Short; reach = c }
closed (Break e) = e

-- in a memory of n bytes
module _ (n : ℕ) (r : Ring) where
  -- "Per slot: descriptor outside, MERR; OWN clear .., underflow at the slot before"
  unfoldable pub link : Chain → Bus Chain
  link (Continue c) =
      look n r c.slot
      >>= (λ found. by found outside: (done (over Memory c)) not_owned: (done (over Short c)) owned: (λ d. done (grow n r d c)))
  link (Break e) = done (Break e)

  unfoldable pub links : ℕ → Chain → Bus Chain
  links zero c = done c
  links (suc k) c = link c >>= links k

  -- the chain from its first slot, whose descriptor was read
  unfoldable pub read_chain : Slot → Descriptor → Bus Closed
  read_chain i d = links (slots r - 1) (grow n r d (record { slot = i; slots = 0; total = 0 })) >>= (λ c. done (closed c))
