-- `gather`: at each slot what is left to gather comes to the whole.
use borrow.Author.Rules.{rules}
use Rattle.transmit.proofs.Frames.{laid_first, laid_rest, gather_room, gather_sum, gather_on, gather_end, gather_whole}
use Rattle.transmit.proofs.Outgoing.gather.Goals as goal

pub copy_buffer-at-requires : goal.copy_buffer-at-requires
copy_buffer-at-requires c = search (laid_first, gather_room)

pub loop-preserved : goal.loop-preserved
loop-preserved c = (search rules, search laid_rest, search gather_sum, search gather_on)

pub returns : goal.returns
returns c = (search gather_end, search gather_whole)
