use Rattle.std.proofs.Common.{◌∙◌, ◌*◌, ℕ, sym, subst, pos, arith}
use Rattle.std.proofs.lemmas.Int.{ints}
use Rattle.cost_store.specs.LabelCosts.{AreLabelCosts}
use Rattle.cost_store.specs.Promises.{IsMetricTable}
use Rattle.moves.proofs.Entries.{smooth_keeps, metric_kept}
use Rattle.moves.proofs.Instances.{instance_meant, metric_of_meant}
use Rattle.moves.proofs.Telling.{bound_small}
use Rattle.moves.proofs.tables.run_with_table.Goals as goal

pub with_metric-requires-clause-keeps : goal.with_metric-requires-clause-keeps
with_metric-requires-clause-keeps g c =
    smooth_keeps (pos 10000) c.args.prices.smooth.now c.labels-labels.result c.labels-labels.result
    (c.requires.prices.size ∙ (λ i. sym c.labels-labels.ensures.value i * sym c.labels-labels.ensures.value i))
    c.labels-labels.ensures.sizes.2 c.requires.prices.range

pub with_metric-requires-clause-metric : goal.with_metric-requires-clause-metric
with_metric-requires-clause-metric g c = λ met cost entries.
    let T : ℕ → Type 0 = λ k. IsMetricTable k c.args.prices.smooth.now in
    metric_kept c.labels-labels.result c.args.prices.smooth.now (subst T (sym c.labels-labels.ensures.value) (c.requires.prices.known.0 met)) cost entries

pub run_problem-requires-clause-posed : goal.run_problem-requires-clause-posed
run_problem-requires-clause-posed g c = λ lives within.
    let A : ℕ → Type 0 = λ k. AreLabelCosts k c.args.prices.label_costs in
    record {
      costs = c.requires.costs;
      smooth = λ weights. c.with_metric.ensures.keeps;
      by_pair = λ numbered. absurd (cc (numbered, c.requires.weighted));
      pairs = c.keeps.ensures;
      data_sites = c.requires.sites.1;
      smooth_labels = rw c.with_metric.ensures.stored (c.labels-labels.ensures.value ∙ sym c.requires.labels);
      label_costs = subst A (sym c.requires.labels) c.requires.prices.label_costs;
    }

pub run_problem-requires-clause-fits : goal.run_problem-requires-clause-fits
run_problem-requires-clause-fits g c = λ lives within. record { sites = c.requires.sites.0; labels = sym c.requires.labels }

pub run_problem-requires-clause-known : goal.run_problem-requires-clause-known
run_problem-requires-clause-known g c = λ lives within.
    rw c.with_metric.ensures.stored
    (λ m meant metric. c.requires.prices.known.1 (metric_of_meant _ _ _ _ _ _ m c.requires.weighted c.requires.labels
    c.labels-labels.ensures.value c.labels-labels.ensures.sizes.1 c.requires.prices.size (λ a b z is. is) meant metric))

pub returns-clause-run : goal.returns-clause-run
returns-clause-run g c = λ m is has.
    c.run_problem.ensures.run m
    (rw c.with_metric.ensures.stored (instance_meant _ _ _ _ _ _ m c.requires.weighted c.requires.labels c.labels-labels.ensures.value (λ a b z ans. ans) is has))

pub returns-clause-metric : goal.returns-clause-metric
returns-clause-metric g c = λ metric m is has.
    c.run_problem.ensures.metric (rw c.with_metric.ensures.stored (c.requires.prices.known.1 metric)) m
    (rw c.with_metric.ensures.stored (instance_meant _ _ _ _ _ _ m c.requires.weighted c.requires.labels c.labels-labels.ensures.value (λ a b z ans. ans) is has))

pub returns-clause-over_metric : goal.returns-clause-over_metric
returns-clause-over_metric g c = λ m is has.
    c.run_problem.ensures.over_metric m
    (rw c.with_metric.ensures.stored (instance_meant _ _ _ _ _ _ m c.requires.weighted c.requires.labels c.labels-labels.ensures.value (λ a b z ans. ans) is has))

pub returns-clause-bounded : goal.returns-clause-bounded
returns-clause-bounded g c = λ m is has.
    bound_small m (pos 10000) c.args.request.start.labels c.args.prices.smooth.now c.args.request.moves c.args.request.cycles c.args.request.start.at c.run_problem.result
    is.labels_are c.requires.prices.range is.table is.weighted is.smooth_are (omega (arith, ints)) (returns-clause-run g c m is has)
