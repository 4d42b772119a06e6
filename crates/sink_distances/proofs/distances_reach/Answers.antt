use Rattle.sink_distances.proofs.Laws.{distances_reach}
use Rattle.sink_distances.proofs.distances_reach.Goals as goal

pub returns : goal.returns
returns c = distances_reach
