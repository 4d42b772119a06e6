use Rattle.block_events.proofs.Lists.{lowers}
use Rattle.block_events.proofs.laws.event_lowers.Goals as goal

pub returns : goal.returns
returns c = lowers
