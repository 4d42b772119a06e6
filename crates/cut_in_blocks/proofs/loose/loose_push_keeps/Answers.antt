use Rattle.cut_in_blocks.proofs.Loosely as loosely
use Rattle.cut_in_blocks.proofs.loose.loose_push_keeps.Goals as goal

pub returns : goal.returns
returns c = loosely.loose_push_keeps
