use Rattle.std.proofs.Common.{arith}
use Rattle.problem_files.proofs.Listed.{all_in_range}
use Rattle.problem_files.proofs.lists.check.Goals as goal

pub returns-in-None-clause-range : goal.returns-in-None-clause-range
returns-in-None-clause-range c = grind (arith, all_in_range)
