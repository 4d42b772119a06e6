use Rattle.moves.proofs.Instances.{instance_meant, metric_of_meant}
use Rattle.moves.proofs.stretch.stretch_with_table.Goals as goal

pub stretch_problem-requires-clause-known : goal.stretch_problem-requires-clause-known
stretch_problem-requires-clause-known g c = λ lives within.
    rw c.with_metric.ensures.stored
    (λ m meant metric. c.requires.prices.known.1 (metric_of_meant _ _ _ _ _ _ m c.requires.weighted c.requires.labels
    c.labels-labels.ensures.value c.labels-labels.ensures.sizes.1 c.requires.prices.size (λ a b z is. is) meant metric))

pub returns-clause-run : goal.returns-clause-run
returns-clause-run g c = λ m is has start left.
    c.stretch_problem.ensures.run m
    (rw c.with_metric.ensures.stored (instance_meant _ _ _ _ _ _ m c.requires.weighted c.requires.labels c.labels-labels.ensures.value (λ a b z ans. ans) is has)) start left
