-- Each contract of the crate card leaves one answer, and one memory and one outgoing slice where it writes them.
use mathlib.Core.List.{List}
use Prim.Native.Nat.{ℕ}
use Rattle.bus.proofs.Only.{Only, OnlyWith, equation, ended, left}
use Rattle.card.proofs.state.ArrayU16WORDSFromCard.from.Reads as state_words
use Rattle.card.proofs.state.CardFromArrayU16WORDS.from.Reads as state_of
use Rattle.card.proofs.Card.fresh.Reads as fresh
use Rattle.card.proofs.Card.is_sound.Reads as is_sound
use Rattle.card.proofs.Card.read.Reads as read
use Rattle.card.proofs.Card.reset.Reads as reset
use Rattle.card.proofs.Card.write.Reads as write
use Rattle.card.proofs.Card.arrive.Reads as arrive
use Rattle.card.proofs.Card.turn.Reads as turn

-- the state as words, and back
pub one_state_words : Only state_words.Post
one_state_words κs a r s e f = equation

pub one_state_of : Only state_of.Post
one_state_of κs a r s e f = equation

-- the card after reset
pub one_fresh : Only fresh.Post
one_fresh κs a r s e f = equation

-- whether a state is sound
pub one_is_sound : Only is_sound.Post
one_is_sound κs a r s e f = equation

-- the act "register read"
pub one_read : Only read.Post
one_read κs a r s e f = equation

-- the act "reset"
pub one_reset : Only reset.Post
one_reset κs a r s e f = equation

-- the act "register write"
pub one_write : Only write.Post
one_write κs a r s e f p q = (ended p q).0

-- the act "frame arrival"
pub one_arrive : OnlyWith arrive.Post (λ κs e. e.1.0.now)
one_arrive κs a r s e f = ended

-- the act "transmit turn"
pub one_turn : OnlyWith {H = List ℕ × List ℕ} turn.Post (λ κs e. (e.1.0.now, e.1.1.0.now))
one_turn κs a r s e f = left
