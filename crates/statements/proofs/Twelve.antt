-- The twelve cases, in one theorem.
use mathlib.Core.Path.{◌≡◌, refl}
use mathlib.Core.List.{map}
use Rattle.fcs.specs.Computed as fcs
use Rattle.bus.specs.Computed as bus
use Rattle.ring.specs.Computed as ring
use Rattle.registers.specs.Computed as registers
use Rattle.filter.specs.Computed as filter
use Rattle.receive.specs.Computed as receive
use Rattle.chain.specs.Computed as chain
use Rattle.transmit.specs.Computed as transmit
use Rattle.answers.specs.Computed as answers
use Rattle.card.specs.Computed as card
use Rattle.statements.specs.Cases.{Case, cases, shown, wrote, good_block, ring_at_zero, running, descriptor_bytes, two_buffers, frame300, bytes_at, arrived, sent, one_to_send}

-- what the cases are made of
unfoldable made : Unit {0}
unfolding cases shown wrote good_block ring_at_zero running descriptor_bytes two_buffers frame300 bytes_at arrived sent one_to_send
made = tt

pub as_given : map (λ (c : Case). c.gives) cases ≡ map (λ (c : Case). c.should) cases
unfolding fcs.computed bus.computed ring.computed registers.computed filter.computed receive.computed chain.computed transmit.computed answers.computed card.computed made
as_given = refl
