use Rattle.near_changes.proofs.Ending.{best_is_low}
use Rattle.near_changes.proofs.laws.best_lowers_nothing.Goals as goal

pub returns : goal.returns
returns c = best_is_low
