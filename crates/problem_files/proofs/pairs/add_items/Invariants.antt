use Rattle.problem_files.proofs.LabelItemLemmas.{HasRead}
use Rattle.problem_files.proofs.pairs.add_items.Given as goal

abbrev pub invariant-loop-place : goal.invariant-loop-place
invariant-loop-place l = HasRead l.fn.pairs l.pairs l.items.items l.place
