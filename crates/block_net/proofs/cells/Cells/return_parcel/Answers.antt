use Rattle.std.proofs.lemmas.Grind.{common_steps}
use Rattle.std.proofs.Common.{arith}
use Rattle.block_net.proofs.cells.Cells.return_parcel.Goals as goal

pub overflow_add-index_mut : goal.overflow_add-index_mut
overflow_add-index_mut c = grind (arith, common_steps)

pub returns : goal.returns
returns c = grind (arith, common_steps)
