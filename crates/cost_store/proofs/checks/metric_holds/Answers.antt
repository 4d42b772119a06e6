use Rattle.std.proofs.Common.{arith}
use Rattle.std.proofs.lemmas.Grind.{common_steps}
use Rattle.cost_store.proofs.checks.metric_holds.Goals as goal

pub returns-then-cost-cost_at-2 : goal.returns-then-cost-cost_at-2
returns-then-cost-cost_at-2 c = grind (arith, common_steps)

pub returns : goal.returns
returns c = grind (arith, common_steps)
