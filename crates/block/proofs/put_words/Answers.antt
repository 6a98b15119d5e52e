-- `put_words`: at each word what is left to write comes to the whole.
use Rattle.block.proofs.Places.{put_goes, put_ends}
use Rattle.block.proofs.put_words.Goals as goal

pub loop-i-preserved : goal.loop-i-preserved
loop-i-preserved c = search put_goes

pub returns : goal.returns
returns c = search put_ends
