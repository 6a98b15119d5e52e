-- Each contract of the crate ring leaves one answer.
use Rattle.bus.proofs.Only.{Only, equation, bounded, ended}
use Rattle.ring.proofs.Ring.none.Reads as none
use Rattle.ring.proofs.Ring.from_words.Reads as from_words
use Rattle.ring.proofs.Ring.is_unloaded.Reads as is_unloaded
use Rattle.ring.proofs.Ring.is_loaded.Reads as is_loaded
use Rattle.ring.proofs.Ring.slot_shown.Reads as slot_shown
use Rattle.ring.proofs.Ring.length_shown.Reads as length_shown
use Rattle.ring.proofs.Ring.slots.Reads as slots
use Rattle.ring.proofs.Ring.moved.Reads as moved
use Rattle.ring.proofs.Ring.next.Reads as next
use Rattle.ring.proofs.Ring.place.Reads as place
use Rattle.ring.proofs.ArrayU164FromRing.from.Reads as ring_words
use Rattle.ring.proofs.RingFromArrayU164.from.Reads as ring_of
use Rattle.ring.proofs.described.Reads as described
use Rattle.ring.proofs.look.Reads as look

-- the ring before initialization
pub one_none : Only none.Post
one_none κs a r s e f = equation

-- the ring that two words name
pub one_from_words : Only from_words.Post
one_from_words κs a r s e f = equation

-- whether a ring is as before initialization
pub one_is_unloaded : Only is_unloaded.Post
one_is_unloaded κs a r s e f = equation

-- whether an initialization can leave a ring
pub one_is_loaded : Only is_loaded.Post
one_is_loaded κs a r s e f = equation

-- how many slots a ring has
pub one_slots : Only slots.Post
one_slots κs a r s e f = bounded

-- a ring with another current slot
pub one_moved : Only moved.Post
one_moved κs a r s e f = equation

-- the counter that shows a slot
pub one_slot_shown : Only slot_shown.Post
one_slot_shown κs a r s e f = equation

-- the counter that shows a length
pub one_length_shown : Only length_shown.Post
one_length_shown κs a r s e f = equation

-- the slot after a slot
pub one_next : Only next.Post
one_next κs a r s e f = equation

-- where the descriptor of a slot stands
pub one_place : Only place.Post
one_place κs a r s e f = bounded

-- the descriptor at an address
pub one_described : Only described.Post
one_described κs a r s e f = equation

-- what stands at a slot
pub one_look : Only look.Post
one_look κs a r s e f p q = (ended p q).0

-- a ring as words, and back
pub one_ring_words : Only ring_words.Post
one_ring_words κs a r s e f = equation

pub one_ring_of : Only ring_of.Post
one_ring_of κs a r s e f = equation
