use Rattle.std.proofs.lemmas.Grind.{common_steps}
use Rattle.std.proofs.Common.{arith}
use Rattle.block_net.proofs.cells.Cells.deliver_parcel.Goals as goal

pub returns : goal.returns
returns c = grind (arith, common_steps)
