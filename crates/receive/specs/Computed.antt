-- What computes when a case is worked out: the definitions of this crate, opened behind one name.
use Rattle.receive.specs.Status.{end_status}
use Rattle.receive.specs.Walk.{walked, status, mcnt, leave, cut, ended, merr, beyond, takes, fill, walk}

unfoldable pub computed_status : Unit {0}
unfolding end_status
computed_status = tt

unfoldable pub computed_walk : Unit {0}
unfolding walked status mcnt leave cut ended merr beyond takes fill walk
computed_walk = tt

unfoldable pub computed : Unit {0}
unfolding computed_status computed_walk
computed = tt
