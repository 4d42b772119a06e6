use Rattle.std.proofs.Common.{rules}
use Rattle.rounds.proofs.solver.rounds.Goals as goal

pub rounds-init : goal.rounds-init
rounds-init g c = (search, search rules, search rules)

pub rounds-preserved : goal.rounds-preserved
rounds-preserved g c = (search, search rules, search rules)

pub returns-clause-ended : goal.returns-clause-ended
returns-clause-ended g c = search rules
