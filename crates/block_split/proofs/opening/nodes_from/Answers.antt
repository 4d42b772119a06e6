use Rattle.std.proofs.Common.{rules}
use Rattle.block_split.proofs.opening.nodes_from.Goals as goal

pub returns-clause-labels : goal.returns-clause-labels
returns-clause-labels c = search rules
