use Rattle.block_events.proofs.Histories.{goes_on}
use Rattle.block_events.proofs.rounds.history_goes_on.Goals as goal

pub returns : goal.returns
returns c = goes_on
