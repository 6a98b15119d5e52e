-- `links`: the number of slots falls.
use Rattle.chain.proofs.+links.Given as goal

abbrev pub decreases-links : goal.decreases-links
decreases-links l = l.k
