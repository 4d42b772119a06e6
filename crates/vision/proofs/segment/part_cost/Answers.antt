use Rattle.std.proofs.Common.{rules}
use Rattle.vision.proofs.segment.part_cost.Goals as goal

pub returns-then-first-2 : goal.returns-then-first-2
returns-then-first-2 c = search rules

pub returns-else-first-2 : goal.returns-else-first-2
returns-else-first-2 c = search rules
