use Rattle.std.proofs.Common.{rules}
use Rattle.vision.proofs.pairs.edge_weight.Goals as goal

pub returns-else-abs_diff-options-clause-value : goal.returns-else-abs_diff-options-clause-value
returns-else-abs_diff-options-clause-value c = search rules
