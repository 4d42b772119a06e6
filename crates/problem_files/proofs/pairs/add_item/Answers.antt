use Rattle.std.proofs.Common.{rules}
use Rattle.problem_files.specs.PairFields.{pair_at}
use Rattle.problem_files.proofs.pairs.add_item.Goals as goal

pub returns-in-len2-clause-ok : goal.returns-in-len2-clause-ok
unfolding pair_at
returns-in-len2-clause-ok c = search rules

pub returns-in-len2-clause-refused : goal.returns-in-len2-clause-refused
unfolding pair_at
returns-in-len2-clause-refused c = search rules

pub returns-in-len3-clause-ok : goal.returns-in-len3-clause-ok
unfolding pair_at
returns-in-len3-clause-ok c = search rules

pub returns-in-len3-clause-refused : goal.returns-in-len3-clause-refused
unfolding pair_at
returns-in-len3-clause-refused c = search rules
