use Rattle.persistency.proofs.Fixing.{zeros_bound}
use Rattle.persistency.proofs.laws.zeros_bound_least.Goals as goal

pub returns : goal.returns
returns c = zeros_bound
