use Rattle.std.proofs.Common.{rules}
use Rattle.rounds.proofs.solver.check.Goals as goal

pub returns-in-Err-clause-refused : goal.returns-in-Err-clause-refused
returns-in-Err-clause-refused c = search rules

pub returns-clause-accepted : goal.returns-clause-accepted
returns-clause-accepted c = search rules
