use Rattle.cut_in_blocks.proofs.Starting as starting
use Rattle.cut_in_blocks.proofs.seats.start_is_sure.Goals as goal

pub returns : goal.returns
returns c = starting.start_is_sure
