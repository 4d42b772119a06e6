use Rattle.site_bounds.proofs.Rests.{rest_least}
use Rattle.site_bounds.proofs.laws.rest_and_forced_is_least.Goals as goal

pub returns : goal.returns
returns c = rest_least
