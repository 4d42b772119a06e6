use Rattle.cost_store.proofs.Meaning.{pairs_meant, metric_meant}
use Rattle.cost_store.proofs.problem.Problem.means.Goals as goal

pub returns-clause-instance : goal.returns-clause-instance
returns-clause-instance g c = λ m meant. pairs_meant _ _ _ m c.requires.posed meant

pub returns-clause-metric : goal.returns-clause-metric
returns-clause-metric g c = λ stored m meant. metric_meant _ _ _ m c.requires.posed meant stored
