use Rattle.persistency.proofs.Strips.{lower_within_upper}
use Rattle.persistency.proofs.laws.lower_within_upper.Goals as goal

pub returns : goal.returns
returns c = lower_within_upper
