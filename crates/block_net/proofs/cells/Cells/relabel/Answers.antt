use Rattle.std.proofs.Common.{rules}
use Rattle.block_net.proofs.cells.Cells.relabel.Goals as goal

pub returns-clause-labelled : goal.returns-clause-labelled
returns-clause-labelled c = search rules
