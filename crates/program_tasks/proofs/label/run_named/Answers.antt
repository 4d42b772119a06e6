use Rattle.std.proofs.Common.{◌∙◌, ◌*◌, ℕ, ℤ, List, sym, subst}
use Rattle.moves.specs.Runs.{AnswersRun}
use Rattle.cost_store.specs.LabelCosts.{AreLabelCosts, costs_of}
use Rattle.moves.specs.Instances.{data_entry, instance_of}
use Rattle.program_tasks.proofs.NamedRuns.{bound_in_range, costs_are, costs_kept}
use Rattle.program_tasks.proofs.label.run_named.Goals as goal

pub run_tables-requires-clause-sites : goal.run_tables-requires-clause-sites
run_tables-requires-clause-sites g c = c.requires.limits.start_sites ∙ sym c.requires.limits.pair_sites

pub run_tables-requires-clause-weighted : goal.run_tables-requires-clause-weighted
run_tables-requires-clause-weighted g c = c.requires.limits.weighted

pub run_tables-requires-clause-data : goal.run_tables-requires-clause-data
run_tables-requires-clause-data g c =
    let limits = c.requires.limits in
    rw c.as_slice.ensures.value (limits.data_count ∙ (λ i. sym limits.pair_sites i * sym limits.start_labels i), limits.data_most)

pub run_tables-requires-clause-smooth : goal.run_tables-requires-clause-smooth
run_tables-requires-clause-smooth g c =
    let limits = c.requires.limits in
    rw c.as_slice-2.ensures.value (limits.smooth_count ∙ (λ i. sym limits.start_labels i * sym limits.start_labels i), limits.smooth_most)

pub returns-clause-run : goal.returns-clause-run
returns-clause-run g c =
    let P : ℕ → Type 0 = λ labels. AnswersRun (instance_of c.args.problem.pairs labels (data_entry labels c.args.problem.data.items) c.args.problem.smooth.items
    (costs_of c.args.problem.label_costs)) c.args.problem.moves c.args.problem.cycles c.args.problem.start.at c.run_tables.result in
    let Q : List ℤ → Type 0 = λ costs. AnswersRun (instance_of c.args.problem.pairs c.args.problem.labels (data_entry c.args.problem.labels c.args.problem.data.items)
    c.args.problem.smooth.items costs) c.args.problem.moves c.args.problem.cycles c.args.problem.start.at c.run_tables.result in
    subst Q (costs_are c.args.problem.label_costs)
    (subst P c.requires.limits.start_labels (rw (c.as_slice.ensures.value, c.as_slice-2.ensures.value) at c.run_tables.ensures.run))

pub run_tables-requires-clause-label_costs : goal.run_tables-requires-clause-label_costs
run_tables-requires-clause-label_costs g c =
    let A : ℕ → Type 0 = λ k. AreLabelCosts k c.args.problem.label_costs in
    subst A (sym c.requires.limits.start_labels) (costs_kept c.args.problem.labels c.args.problem.label_costs c.requires.limits.label_costs)

pub returns-clause-bounded : goal.returns-clause-bounded
returns-clause-bounded g c = bound_in_range c.run_tables.result c.run_tables.ensures.bounded
