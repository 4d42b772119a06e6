use Rattle.std.proofs.Common.{arith}
use Rattle.cost_store.proofs.problem.Problem.weighted_cost.Goals as goal

pub cost-requires-clause-keeps : goal.cost-requires-clause-keeps
cost-requires-clause-keeps g c = c.requires.posed.smooth c.requires.weighted

pub cost-requires-clause-inside : goal.cost-requires-clause-inside
cost-requires-clause-inside g c =
    (omega (arith, c.requires.inside.0, c.requires.posed.smooth_labels), omega (arith, c.requires.inside.1, c.requires.posed.smooth_labels))
