use Rattle.sink_distances.proofs.Laws.{distances_rise}
use Rattle.sink_distances.proofs.distances_rise.Goals as goal

pub returns : goal.returns
returns c = distances_rise
