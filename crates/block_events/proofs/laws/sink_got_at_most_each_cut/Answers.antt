use Rattle.block_events.proofs.Finishing.{got-le-capacity}
use Rattle.block_events.proofs.laws.sink_got_at_most_each_cut.Goals as goal

pub returns : goal.returns
returns c = got-le-capacity
