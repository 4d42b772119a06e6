use Rattle.cut_in_blocks.proofs.Quiet as quiet
use Rattle.cut_in_blocks.proofs.seats.quiet_is_start.Goals as goal

pub returns : goal.returns
returns c = quiet.quiet_is_start
