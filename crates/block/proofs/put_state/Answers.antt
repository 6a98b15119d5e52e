-- `put_state`: words, zeros and the check make the block.
use Rattle.block.proofs.Places.{block_put}
use Rattle.block.proofs.put_state.Goals as goal

pub returns : goal.returns
returns c = search block_put
