use Rattle.sink_distances.proofs.Laws.{distances_label}
use Rattle.sink_distances.proofs.distances_label.Goals as goal

pub returns : goal.returns
returns c = distances_label
