use Rattle.block_events.proofs.Quiet.{quiet_empty}
use Rattle.block_events.proofs.rounds.quiet_is_empty.Goals as goal

pub returns : goal.returns
returns c = quiet_empty
