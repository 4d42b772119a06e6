use Rattle.std.proofs.Common.{arith, ◌∙◌, ℕ, ◌+◌, Bool, List, ℤ, pos, MatchResult, slice_index, sym, ap, subst, inl, refl}
use Rattle.cost_store.specs.Promises.{IsTable}
use Rattle.label_field.specs.Grids.{distance}
use Rattle.label_field.specs.PairLists.{PairList}
use Rattle.run_options.specs.Shapes.{shape_cost}
use Rattle.label_energies.specs.declared.cycles.Moves.{Moves}
use Rattle.vision.specs.Faults.{HasRunError}
use Rattle.vision.specs.Jobs.{IsReadyToWrite, job_of}
use Rattle.vision.specs.Problems.{restore_problem}
use Rattle.vision.specs.declared.job.Plan.{Plan}
use Rattle.vision.proofs.Metrics.{shape_metric_table}
use Rattle.std.proofs.lemmas.Result.{err_from_is_err_and}
use Rattle.vision.proofs.restore.restore.Goals as goal

pub returns-clause-run : goal.returns-clause-run
returns-clause-run g c =
    let o = c.args.options.now in
    let p = c.args.picture.now in
    let maxval = c.maxval-maxval.ensures in
    let problem = restore_problem o p in
    let M : Moves → ℕ → Bool → ℕ → Type 0 = λ m k b v. MatchResult c.run_job.result (IsReadyToWrite (job_of problem m k b p v)) (HasRunError (g.H.How.refuses c.args.how.now) (job_of problem m k b p v)) in
    let J : Plan → Type 0 = λ q. M q.moves q.cycles q.bound q.maxval in
    let S : List ℤ → Type 0 = λ t. IsTable (c.maxval-maxval.result + 1) (c.maxval-maxval.result + 1) (shape_cost o.smooth o.trunc) t in
    subst (M o.moves o.cycles o.bound) maxval (subst J c.restore_plan-plan.ensures (c.run_job.ensures.run problem (rw c.new-data_cost.ensures.stored (record {
      sites_are = sym (ap (λ (l : PairList). l.sites) c.in_ok-pairs.ensures);
      labels_are = ap (λ v. v + 1) (sym maxval);
      pairs_are = sym (ap (λ (l : PairList). l.list) c.in_ok-pairs.ensures);
      data_are = λ a b z la lb is. is ∙ ap (λ xs. pos (distance (slice_index xs a) b)) c.samples-samples.ensures.value;
      table = shape_cost o.smooth o.trunc;
      weighted = λ weight a b. refl;
      smooth_are = subst S (sym c.as_slice-table.ensures.value) c.in_ok-smooth.ensures.table;
    })) (record { each = λ label l. sym (c.in_ok-label_costs.ensures.each label (omega (arith, l, maxval))) })))

pub returns-clause-metric : goal.returns-clause-metric
returns-clause-metric g c = λ apart.
    let o = c.args.options.now in
    let p = c.args.picture.now in
    let maxval = c.maxval-maxval.ensures in
    let k = c.maxval-maxval.result + 1 in
    let S : List ℤ → Type 0 = λ t. IsTable k k (shape_cost o.smooth o.trunc) t in
    let table = subst S (sym c.as_slice-table.ensures.value) c.in_ok-smooth.ensures.table in
    c.run_job.ensures.metric (rw c.new-data_cost.ensures.stored
    (shape_metric_table o.smooth k o.trunc c.as_slice-table.result.now (omega arith) c.requires.options.run.trunc_least apart table))
    (restore_problem o p) (rw c.new-data_cost.ensures.stored (record {
      sites_are = sym (ap (λ (l : PairList). l.sites) c.in_ok-pairs.ensures);
      labels_are = ap (λ v. v + 1) (sym maxval);
      pairs_are = sym (ap (λ (l : PairList). l.list) c.in_ok-pairs.ensures);
      data_are = λ a b z la lb is. is ∙ ap (λ xs. pos (distance (slice_index xs a) b)) c.samples-samples.ensures.value;
      table = shape_cost o.smooth o.trunc;
      weighted = λ weight a b. refl;
      smooth_are = table;
    })) (record { each = λ label l. sym (c.in_ok-label_costs.ensures.each label (omega (arith, l, maxval))) })

pub returns-in_err-smooth : goal.returns-in_err-smooth
returns-in_err-smooth g c =
    let p = err_from_is_err_and c.from_residual.result c.from_residual.ensures.1 in
    record { run = rw (p.1, p.2) (inl refl); metric = λ apart. rw (p.1, p.2) (λ tells. tells) }

pub returns-in_err-pairs : goal.returns-in_err-pairs
returns-in_err-pairs g c =
    let p = err_from_is_err_and c.from_residual-in_err-pairs.result c.from_residual-in_err-pairs.ensures.1 in
    record { run = rw (p.1, p.2) (inl refl); metric = λ apart. rw (p.1, p.2) (λ tells. tells) }

pub returns-in_err-label_costs : goal.returns-in_err-label_costs
returns-in_err-label_costs g c =
    let p = err_from_is_err_and c.from_residual-in_err-label_costs.result c.from_residual-in_err-label_costs.ensures.1 in
    record { run = rw (p.1, p.2) (inl refl); metric = λ apart. rw (p.1, p.2) (λ tells. tells) }

pub is_metric_cost-by_metric-requires-clause-table : goal.is_metric_cost-by_metric-requires-clause-table
is_metric_cost-by_metric-requires-clause-table g c =
    let S : List ℤ → Type 0 = λ t. IsTable (c.maxval-maxval.result + 1) (c.maxval-maxval.result + 1) (shape_cost c.args.options.now.smooth c.args.options.now.trunc) t in
    let table = subst S (sym c.as_slice-table.ensures.value) c.in_ok-smooth.ensures.table in
    (c.args.options.now.trunc, c.requires.options.run.trunc_least, table)
