use Rattle.global_relabel.proofs.Local.{are_exact}
use Rattle.global_relabel.proofs.local_exactness_is_exactness.Goals as goal

pub returns : goal.returns
returns c = are_exact
