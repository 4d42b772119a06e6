use Rattle.persistency.proofs.Fixing.{ones_bound}
use Rattle.persistency.proofs.laws.ones_bound_least.Goals as goal

pub returns : goal.returns
returns c = ones_bound
