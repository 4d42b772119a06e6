use Rattle.block_events.proofs.Kept.{one_effect}
use Rattle.block_events.proofs.laws.has_one_effect.Goals as goal

pub returns : goal.returns
returns c = one_effect
