use Rattle.near_changes.proofs.Ending.{set_least}
use Rattle.near_changes.proofs.laws.closed_set_is_least.Goals as goal

pub returns : goal.returns
returns c = set_least
