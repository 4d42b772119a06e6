use Rattle.cut_in_blocks.proofs.BlockHistories as histories
use Rattle.cut_in_blocks.proofs.histories.turn_is_history.Goals as goal

pub returns : goal.returns
returns c = histories.turn_is_history
