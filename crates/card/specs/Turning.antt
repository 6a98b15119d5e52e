-- The act "transmit turn".
use Rattle.std.specs.Prelude.{ℕ, Bool}
use Rattle.std.specs.Prelude.{if◌then◌else◌}
use Rattle.bus.specs.Bus.{Bus, done, Handed, empty_handed, ◌>>=◌}
use Rattle.ring.specs.declared.Slot.{Slot}
use Rattle.ring.specs.Slots.{moved}
use Rattle.transmit.specs.declared.Outcome.{Outcome}
use Rattle.transmit.specs.declared.Report.{Report}
use Rattle.transmit.specs.Turn.{turn}
use Rattle.answers.specs.declared.Answer.TheVariants.{Off}
use Rattle.answers.specs.Refusals.{Tested, turn_tests, unless}
use Rattle.answers.specs.Events.{turn_event}
use Rattle.card.specs.declared.Card.{Card}
use Rattle.card.specs.declared.Reply.{Reply}
use Rattle.card.specs.Sound.{sound}
use Rattle.card.specs.Replies.{replied, refused}
use Rattle.card.specs.Arrival.{happened}

-- what a turn on the ring leaves: its event, and the slot that is current
unfoldable pub turned : Card → Bool → Slot → Outcome → Reply
turned c noheartbeat i o =
    replied (happened c (turn_event noheartbeat o) c.receive (moved c.transmit i)) (turn_event noheartbeat o).answer

-- a turn on the ring, in a memory of n bytes
unfoldable pub take_turn : Card → ℕ → Report → Bus (Handed Reply)
take_turn c n w =
    turn n c.transmit c.mode w
    >>= (λ t. done (record { answer = turned c w.noheartbeat t.answer.slot t.answer.outcome; frame = t.frame }))

-- "TXON clear: "off"."
unfoldable pub turn_if_on : Card → ℕ → Report → Bus (Handed Reply)
turn_if_on c n w = if c.csr0.txon then take_turn c n w else done (empty_handed (replied c Off))

-- whether a turn is refused
abbrev pub turn_refusal : Card → ℕ → ℕ → ℕ → Tested
turn_refusal c n out report = turn_tests (sound c) n out report

-- a turn, with an outgoing slice of `out` bytes
unfoldable pub turning : Card → ℕ → ℕ → Report → Bus (Handed Reply)
turning c n out w =
    unless (turn_refusal c n out w.result) (λ r. done (empty_handed (refused c r))) (turn_if_on c n w)
