-- `copy_buffer`: the bytes are those that the descriptor names.
use Rattle.transmit.proofs.Frames.{buffer_inside, buffer_room, buffer_place, buffer_written}
use Rattle.transmit.proofs.Outgoing.copy_buffer.Goals as goal

pub copy_bytes-requires : goal.copy_bytes-requires
copy_bytes-requires c = search (buffer_inside, buffer_room)

pub returns : goal.returns
returns c = (search buffer_place, search buffer_written)
