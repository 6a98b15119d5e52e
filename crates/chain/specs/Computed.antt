-- What computes when a case is worked out: the definitions of this crate, opened behind one name.
use Rattle.chain.specs.Start.{pass}
use Rattle.chain.specs.Chain.{further, grow, closed, link, links, read_chain}

unfoldable pub computed_start : Unit {0}
unfolding pass
computed_start = tt

unfoldable pub computed_chain : Unit {0}
unfolding further grow closed link links read_chain
computed_chain = tt

unfoldable pub computed : Unit {0}
unfolding computed_start computed_chain
computed = tt
