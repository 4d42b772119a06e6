use Rattle.label_energies.proofs.Metric.{metric_allows, metric_never}
use Rattle.label_energies.proofs.laws.metric_is_allowed.Goals as goal

pub returns : goal.returns
returns c = λ m move f place pairs metric here labelled.
    (metric_allows m move f pairs metric here labelled, metric_never m move f place pairs metric here labelled)
