use Rattle.persistency.proofs.Fixing.{fixed_same}
use Rattle.persistency.proofs.laws.same_choices_same.Goals as goal

pub returns : goal.returns
returns c = fixed_same
