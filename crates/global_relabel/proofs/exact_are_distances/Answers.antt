use Rattle.global_relabel.proofs.Bridge.{exact_are_distances}
use Rattle.global_relabel.proofs.exact_are_distances.Goals as goal

pub returns : goal.returns
returns c = exact_are_distances
