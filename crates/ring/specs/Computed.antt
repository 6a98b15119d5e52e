-- What computes when a case is worked out: the definitions of this crate, opened behind one name.
use Rattle.ring.specs.Slots.{slots, next, place}
use Rattle.ring.specs.Loading.{from_words, loaded}
use Rattle.ring.specs.Status.{without_own}
use Rattle.ring.specs.Descriptor.{described, found_in, look, by◌outside:◌not_owned:◌owned:◌}

unfoldable pub computed_slots : Unit {0}
unfolding slots next place
computed_slots = tt

unfoldable pub computed_loading : Unit {0}
unfolding from_words loaded
computed_loading = tt

unfoldable pub computed_status : Unit {0}
unfolding without_own
computed_status = tt

unfoldable pub computed_descriptor : Unit {0}
unfolding described found_in look by◌outside:◌not_owned:◌owned:◌
computed_descriptor = tt

unfoldable pub computed : Unit {0}
unfolding computed_slots computed_loading computed_status computed_descriptor
computed = tt
