use Rattle.block_events.proofs.Kept.{kept}
use Rattle.block_events.proofs.laws.event_keeps.Goals as goal

pub returns : goal.returns
returns c = kept
