use Rattle.std.proofs.lemmas.Grind.{common_steps}
use Rattle.std.proofs.Common.{arith}
use Rattle.block_net.proofs.cells.Cells.give.Goals as goal

pub overflow_sub-index_mut : goal.overflow_sub-index_mut
overflow_sub-index_mut c = grind (arith, common_steps)

pub overflow_sub-index_mut-2 : goal.overflow_sub-index_mut-2
overflow_sub-index_mut-2 c = grind (arith, common_steps)

pub returns-clause-given : goal.returns-clause-given
returns-clause-given c = grind (arith, common_steps)
