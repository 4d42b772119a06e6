use Rattle.std.proofs.lemmas.Grind.{common_steps}
use Rattle.std.proofs.Common.{arith}
use Rattle.block_net.proofs.cells.Cells.border_range.Goals as goal

pub returns-clause-end : goal.returns-clause-end
returns-clause-end c = grind (arith, common_steps)

pub returns-clause-first : goal.returns-clause-first
returns-clause-first c = grind (arith, common_steps)
