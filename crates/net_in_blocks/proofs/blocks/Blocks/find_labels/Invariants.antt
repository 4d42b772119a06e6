use Rattle.std.proofs.Common.{sum}
use Rattle.net_in_blocks.proofs.Lowering.{IsSearch}
use Rattle.net_in_blocks.proofs.blocks.Blocks.find_labels.Given as goal

abbrev pub invariant-passes : goal.invariant-passes
invariant-passes l = IsSearch l.fn.self l.self

abbrev pub decreases-passes : goal.decreases-passes
decreases-passes l = sum l.self.labels
