use Rattle.persistency.proofs.Existing.{least_exists}
use Rattle.persistency.proofs.laws.smallest_least_exists.Goals as goal

pub returns : goal.returns
returns c = least_exists
