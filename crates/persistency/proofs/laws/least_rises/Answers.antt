use Rattle.persistency.proofs.Fixing.{least_rises}
use Rattle.persistency.proofs.laws.least_rises.Goals as goal

pub returns : goal.returns
returns c = least_rises
