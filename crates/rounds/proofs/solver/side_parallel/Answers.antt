use Rattle.std.proofs.Common.{rules}
use Rattle.rounds.proofs.solver.side_parallel.Goals as goal

pub returns-clause-smallest : goal.returns-clause-smallest
returns-clause-smallest g c = search rules
