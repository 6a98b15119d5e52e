-- `links`: two halves come to the whole, and the number of slots falls.
use native.Mathlib.Omega.{arith}
use Rattle.chain.proofs.Chains.{links_none, links_one, links_bounds, links_both, links_ended}
use Rattle.chain.proofs.+links.Goals as goal

pub returns-then-k-eq0 : goal.returns-then-k-eq0
returns-then-k-eq0 t c = search links_none

pub returns-then-k-eq1 : goal.returns-then-k-eq1
returns-then-k-eq1 t c = search links_one

pub returns-in_err-first : goal.returns-in_err-first
returns-in_err-first t c = search (links_ended, c.in_err-first.was)

pub links-requires-2 : goal.links-requires-2
links-requires-2 t c = (omega arith, search (links_bounds, c.in_ok-first.ensures))

pub returns : goal.returns
returns t c = search (links_both, c.in_ok-first.ensures)
