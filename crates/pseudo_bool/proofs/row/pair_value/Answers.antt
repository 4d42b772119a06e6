use Rattle.std.proofs.Common.{rules}
use Rattle.pseudo_bool.proofs.row.pair_value.Goals as goal

pub returns-clause-value : goal.returns-clause-value
returns-clause-value c = search rules
