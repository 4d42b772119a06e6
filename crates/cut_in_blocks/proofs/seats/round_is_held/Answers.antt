use Rattle.cut_in_blocks.proofs.Quiet as quiet
use Rattle.cut_in_blocks.proofs.seats.round_is_held.Goals as goal

pub returns : goal.returns
returns c = quiet.round_is_held
