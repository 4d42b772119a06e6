use Rattle.block_events.proofs.Opening.{opened_count}
use Rattle.block_events.proofs.laws.opening_count.Goals as goal

pub returns : goal.returns
returns c = opened_count
