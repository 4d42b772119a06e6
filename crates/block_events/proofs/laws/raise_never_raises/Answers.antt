use Rattle.block_events.proofs.Lists.{never_raises}
use Rattle.block_events.proofs.laws.raise_never_raises.Goals as goal

pub returns : goal.returns
returns c = never_raises
