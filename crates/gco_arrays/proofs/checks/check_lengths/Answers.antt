use Rattle.std.proofs.Common.{rules}
use Rattle.gco_arrays.proofs.checks.check_lengths.Goals as goal

pub returns-clause-counted : goal.returns-clause-counted
returns-clause-counted c = search rules
