-- What computes when a case is worked out: the definitions of this crate, opened behind one name.
use Rattle.fcs.specs.Fcs.{fallen, shift, shifts, enter, register, register_of, fcs_of, both, right_fcs, hash_of}

unfoldable pub computed_fcs : Unit {0}
unfolding fallen shift shifts enter register register_of fcs_of both right_fcs hash_of
computed_fcs = tt

unfoldable pub computed : Unit {0}
unfolding computed_fcs
computed = tt
