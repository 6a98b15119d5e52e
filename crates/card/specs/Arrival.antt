-- The act "frame arrival".
use Rattle.std.specs.Prelude.{ℕ, ◌+◌, ◌%◌, Bool, List, length, take, ltb}
use Rattle.fcs.specs.Fcs.{right_fcs}
use Rattle.std.specs.Prelude.{if◌then◌else◌}
use Rattle.bus.specs.Bus.{Bus, done, ◌>>=◌}
use Rattle.ring.specs.declared.Slot.{Slot}
use Rattle.ring.specs.declared.Ring.{Ring}
use Rattle.ring.specs.Slots.{moved}
use Rattle.registers.specs.Csr0.{changed}
use Rattle.filter.specs.Filter.{ours}
use Rattle.receive.specs.declared.Ending.{Ending}
use Rattle.receive.specs.Status.{end_status}
use Rattle.receive.specs.Walk.{walk}
use Rattle.answers.specs.declared.Event.{Event}
use Rattle.answers.specs.declared.Answer.TheVariants.{Off, Runt, NotOurs}
use Rattle.answers.specs.Refusals.{Tested, arrive_tests, unless}
use Rattle.answers.specs.Events.{arrival_event}
use Rattle.card.specs.declared.Card.{Card}
use Rattle.card.specs.declared.Reply.{Reply}
use Rattle.card.specs.State.{with}
use Rattle.card.specs.Sound.{sound}
use Rattle.card.specs.Replies.{replied, refused}

-- an event: bits of CSR0 change, CSR112 rises ("16 bits, 65,535 goes to 0"), and the rings are at these slots
unfoldable pub happened : Card → Event → Ring → Ring → Card
happened c e rx tx = with c (changed c.csr0 e.on e.off) c.written ((c.missed + e.missed) % 65536) rx tx

-- what a walk leaves: its event, and the slot that is current
unfoldable pub arrived : Card → Slot → Ending → Reply
arrived c i e = replied (happened c (arrival_event e) (moved c.receive i) c.transmit) (arrival_event e).answer

-- the destination is the frame's first six bytes
unfoldable pub is_ours : Card → List ℕ → Bool
is_ours c f = ours c.mode c.address c.filter (take 6 f)

-- a frame that is ours goes through the ring, in a memory of n bytes
unfoldable pub take_in : Card → ℕ → List ℕ → ℕ → Bus Reply
take_in c n f extra =
    walk n c.receive f (end_status (right_fcs f) extra) >>= (λ w. done (arrived c w.slot w.ending))

-- "The first that holds decides: RXON clear, "off"; under 64 bytes, "runt"; filter, "not ours". None of these changes anything."
unfoldable pub arrival : Card → ℕ → List ℕ → ℕ → Bus Reply
arrival c n f extra =
    if c.csr0.rxon
    then
    (if ltb (length f) 64
    then done (replied c Runt)
    else (if is_ours c f then take_in c n f extra else done (replied c NotOurs)))
    else done (replied c Off)

-- whether an arrival is refused
abbrev pub arrive_refusal : Card → ℕ → ℕ → ℕ → Tested
arrive_refusal c n frame extra = arrive_tests (sound c) n frame extra

-- an arrival
unfoldable pub arriving : Card → ℕ → List ℕ → ℕ → Bus Reply
arriving c n f extra =
    unless (arrive_refusal c n (length f) extra) (λ r. done (refused c r)) (arrival c n f extra)
