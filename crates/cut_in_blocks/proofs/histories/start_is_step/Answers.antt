use Rattle.cut_in_blocks.proofs.Starts as starts
use Rattle.cut_in_blocks.proofs.histories.start_is_step.Goals as goal

pub returns : goal.returns
returns c = starts.start_is_step
