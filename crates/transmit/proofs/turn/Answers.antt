-- `turn`: what the start finds, and what its chain comes to.
use Rattle.std.specs.Array.{IsFirstChunk}
use Rattle.transmit.proofs.Turns.{frame_counted, frame_some, frame_ready, turn_no_memory, turn_nothing, turn_frame}
use Rattle.transmit.proofs.turn.Goals as goal

pub read_chain-read-requires : goal.read_chain-read-requires
read_chain-read-requires c = search (frame_counted, frame_some)

pub ending-requires : goal.ending-requires
ending-requires c = search frame_ready

pub returns-in-NoMemory : goal.returns-in-NoMemory
returns-in-NoMemory c = search turn_no_memory

pub returns-in-Nothing : goal.returns-in-Nothing
returns-in-Nothing c = search turn_nothing

pub returns-in-Frame : goal.returns-in-Frame
returns-in-Frame c =
    let k : IsFirstChunk c.args.out.now c.unwrap-room.result.now 4100 = rw c.unwrap-room.ensures at c.first_chunk_mut.ensures.cases in
    search turn_frame
