use Rattle.near_changes.proofs.Ending.{stage_ends}
use Rattle.near_changes.proofs.laws.closed_stage_ends_move.Goals as goal

pub returns : goal.returns
returns c = stage_ends
