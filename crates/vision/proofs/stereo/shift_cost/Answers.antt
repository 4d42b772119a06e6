use Rattle.std.proofs.Common.{rules}
use Rattle.vision.proofs.stereo.shift_cost.Goals as goal

pub returns-then-from-shift-clause-cost : goal.returns-then-from-shift-clause-cost
returns-then-from-shift-clause-cost c = search rules

pub returns-clause-cost : goal.returns-clause-cost
returns-clause-cost c = search rules
