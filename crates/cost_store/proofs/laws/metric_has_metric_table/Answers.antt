use Rattle.cost_store.proofs.Metrics.{table_of_metric}
use Rattle.cost_store.proofs.laws.metric_has_metric_table.Goals as goal

pub returns : goal.returns
returns c = λ k cost table some is metric. table_of_metric k cost table some is metric
