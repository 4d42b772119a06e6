use Rattle.std.proofs.Common.{arith}
use Rattle.std.proofs.lemmas.Grind.{common_steps}
use Rattle.problem_files.specs.ListFields.{natural_of}
use Rattle.problem_files.proofs.Listed.{map_viewed}
use Rattle.problem_files.proofs.lists.numbers_of.Goals as goal

pub loop-item-preserved : goal.loop-item-preserved
loop-item-preserved c = grind (arith, common_steps)

pub returns : goal.returns
returns c = grind (arith, common_steps, map_viewed natural_of c.args.items.now.items)
