use Rattle.cut_in_blocks.proofs.BlockPlaces as places
use Rattle.cut_in_blocks.proofs.seats.rooms_tell_got.Goals as goal

pub returns : goal.returns
returns c = places.rooms_tell_got
