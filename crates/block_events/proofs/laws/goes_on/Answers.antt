use Rattle.block_events.proofs.Progress.{progress}
use Rattle.block_events.proofs.laws.goes_on.Goals as goal

pub returns : goal.returns
returns c = progress
