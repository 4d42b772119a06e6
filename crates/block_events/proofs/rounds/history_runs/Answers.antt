use Rattle.block_events.proofs.Running as running
use Rattle.block_events.proofs.rounds.history_runs.Goals as goal

pub returns : goal.returns
returns c = running.history_runs
