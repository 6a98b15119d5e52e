-- What computes when a case is worked out: the definitions of this crate, opened behind one name.
use Rattle.filter.specs.Filter.{station, group, addressed, ours}

unfoldable pub computed_filter : Unit {0}
unfolding station group addressed ours
computed_filter = tt

unfoldable pub computed : Unit {0}
unfolding computed_filter
computed = tt
