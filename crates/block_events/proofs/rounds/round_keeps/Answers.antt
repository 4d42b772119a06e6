use Rattle.block_events.proofs.Keeping.{round_kept}
use Rattle.block_events.proofs.rounds.round_keeps.Goals as goal

pub returns : goal.returns
returns c = round_kept
