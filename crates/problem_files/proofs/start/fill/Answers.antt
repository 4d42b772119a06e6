use Rattle.std.proofs.Common.{arith}
use Rattle.std.proofs.lemmas.Grind.{common_steps}
use Rattle.problem_files.proofs.start.fill.Goals as goal

pub loop-site-preserved : goal.loop-site-preserved
loop-site-preserved c = grind (arith, common_steps)

pub returns : goal.returns
returns c = grind (arith, common_steps)
