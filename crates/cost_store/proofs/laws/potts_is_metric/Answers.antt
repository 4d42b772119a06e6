use Rattle.cost_store.proofs.Metrics.{potts_metric, potts_ratio}
use Rattle.cost_store.proofs.laws.potts_is_metric.Goals as goal

pub returns : goal.returns
returns c = λ k. record { metric = potts_metric k; ratio = potts_ratio k }
