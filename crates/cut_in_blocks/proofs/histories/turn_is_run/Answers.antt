use Rattle.cut_in_blocks.proofs.Runs as runs
use Rattle.cut_in_blocks.proofs.histories.turn_is_run.Goals as goal

pub returns : goal.returns
returns c = runs.turn_is_run
