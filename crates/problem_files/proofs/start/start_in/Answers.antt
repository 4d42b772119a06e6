use Rattle.std.proofs.Common.{rules}
use Rattle.problem_files.specs.StartFields.{start_in}
use Rattle.problem_files.proofs.start.start_in.Goals as goal

pub returns-in-Some-clause-ok : goal.returns-in-Some-clause-ok
unfolding start_in
returns-in-Some-clause-ok c = search rules

pub returns-in-Some-clause-refused : goal.returns-in-Some-clause-refused
unfolding start_in
returns-in-Some-clause-refused c = search rules
