use Rattle.cost_store.proofs.Metrics.{linear_metric, linear_ratio}
use Rattle.cost_store.proofs.laws.linear_is_metric.Goals as goal

pub returns : goal.returns
returns c = λ k most some. record { metric = linear_metric k most some; ratio = linear_ratio k most some }
