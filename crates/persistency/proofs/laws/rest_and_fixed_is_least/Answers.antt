use Rattle.persistency.proofs.Fixing.{fixed_as_least}
use Rattle.persistency.proofs.laws.rest_and_fixed_is_least.Goals as goal

pub returns : goal.returns
returns c = fixed_as_least
