use Rattle.site_bounds.proofs.Hiding.{hidden_least}
use Rattle.site_bounds.proofs.laws.hidden_is_least.Goals as goal

pub returns : goal.returns
returns c = hidden_least
