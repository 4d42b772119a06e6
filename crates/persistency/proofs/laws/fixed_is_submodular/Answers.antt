use Rattle.persistency.proofs.Fixing.{fixed_falls, fixed_over}
use Rattle.persistency.proofs.laws.fixed_is_submodular.Goals as goal

pub returns : goal.returns
returns c = record { falls = fixed_falls; variables = fixed_over }
