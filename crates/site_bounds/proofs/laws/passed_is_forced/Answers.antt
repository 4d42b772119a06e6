use Rattle.site_bounds.proofs.Putting.{passes_forced, passed_forced}
use Rattle.site_bounds.proofs.laws.passed_is_forced.Goals as goal

pub returns : goal.returns
returns c = record { one = passes_forced; all = passed_forced }
