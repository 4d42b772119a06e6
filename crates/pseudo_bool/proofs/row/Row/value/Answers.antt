use Rattle.std.proofs.Common.{arith}
use Rattle.std.proofs.lemmas.Grind.{common_steps}
use Rattle.pseudo_bool.proofs.row.Row.value.Goals as goal

pub returns-in-One-clause-within : goal.returns-in-One-clause-within
returns-in-One-clause-within c = grind (arith, common_steps)
