use Rattle.problem_files.proofs.EnergyItemLemmas.{HasRead}
use Rattle.problem_files.proofs.energy.add_items.Given as goal

abbrev pub invariant-loop-place : goal.invariant-loop-place
invariant-loop-place l = HasRead l.fn.energy l.energy l.items.items l.place
