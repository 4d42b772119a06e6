use Rattle.site_bounds.proofs.Putting.{forced_least}
use Rattle.site_bounds.proofs.laws.forced_is_least.Goals as goal

pub returns : goal.returns
returns c = forced_least
