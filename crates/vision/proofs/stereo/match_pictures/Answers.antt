use Rattle.std.proofs.Common.{ℕ, List, ℤ, MatchResult, refl, sym, ap, subst, inl}
use Rattle.cost_store.specs.Promises.{IsTable}
use Rattle.label_field.specs.PairLists.{PairList}
use Rattle.run_options.specs.Shapes.{shape_cost}
use Rattle.vision.specs.Faults.{HasRunError}
use Rattle.vision.specs.Jobs.{IsReadyToWrite, job_of}
use Rattle.vision.specs.Problems.{stereo_problem}
use Rattle.vision.proofs.Metrics.{shape_metric_table}
use Rattle.vision.proofs.Shifts.{told_cost}
use Rattle.std.proofs.lemmas.Result.{err_from_is_err_and}
use Rattle.vision.proofs.stereo.match_pictures.Goals as goal

pub returns-clause-run : goal.returns-clause-run
returns-clause-run g c =
    let o = c.args.options.now in
    let left = c.args.left.now in
    let problem = stereo_problem o left c.args.right.now in
    let J : ℕ → Type 0 = λ v. MatchResult c.run_job.result (IsReadyToWrite (job_of problem o.moves o.cycles o.bound left v)) (HasRunError (g.H.How.refuses c.args.how.now) (job_of problem o.moves o.cycles o.bound left v)) in
    let S : List ℤ → Type 0 = λ t. IsTable o.labels o.labels (shape_cost o.smooth o.trunc) t in
    subst J c.max.ensures (c.run_job.ensures.run problem (rw c.new-data_cost.ensures.stored (record {
      sites_are = sym (ap (λ (l : PairList). l.sites) c.in_ok-pairs.ensures);
      labels_are = refl;
      pairs_are = sym (ap (λ (l : PairList). l.list) c.in_ok-pairs.ensures);
      data_are = told_cost o.cap c.width.result _ o.labels c.args.left.now c.args.right.now c.in_ok-columns.columns.items c.as_slice-columns.result.now c.samples-here.result.now
          c.samples-there.result.now c.samples-here.ensures.valid c.width.ensures (ap (λ (l : PairList). l.sites) c.in_ok-pairs.ensures) c.requires.options.labels_most
          c.in_ok-columns.ensures c.as_slice-columns.ensures.value c.samples-here.ensures.value c.samples-there.ensures.value;
      table = shape_cost o.smooth o.trunc;
      weighted = λ weight a b. refl;
      smooth_are = subst S (sym c.as_slice-table.ensures.value) c.in_ok-smooth.ensures.table;
    })) (record { each = λ label l. refl }))

pub returns-clause-metric : goal.returns-clause-metric
returns-clause-metric g c = λ apart.
    let o = c.args.options.now in
    let S : List ℤ → Type 0 = λ t. IsTable o.labels o.labels (shape_cost o.smooth o.trunc) t in
    let table = subst S (sym c.as_slice-table.ensures.value) c.in_ok-smooth.ensures.table in
    c.run_job.ensures.metric (rw c.new-data_cost.ensures.stored
    (shape_metric_table o.smooth o.labels o.trunc c.as_slice-table.result.now c.requires.options.labels_least c.requires.options.run.trunc_least apart table))
    (stereo_problem o c.args.left.now c.args.right.now) (rw c.new-data_cost.ensures.stored (record {
      sites_are = sym (ap (λ (l : PairList). l.sites) c.in_ok-pairs.ensures);
      labels_are = refl;
      pairs_are = sym (ap (λ (l : PairList). l.list) c.in_ok-pairs.ensures);
      data_are = told_cost o.cap c.width.result _ o.labels c.args.left.now c.args.right.now c.in_ok-columns.columns.items c.as_slice-columns.result.now c.samples-here.result.now
          c.samples-there.result.now c.samples-here.ensures.valid c.width.ensures (ap (λ (l : PairList). l.sites) c.in_ok-pairs.ensures) c.requires.options.labels_most
          c.in_ok-columns.ensures c.as_slice-columns.ensures.value c.samples-here.ensures.value c.samples-there.ensures.value;
      table = shape_cost o.smooth o.trunc;
      weighted = λ weight a b. refl;
      smooth_are = table;
    })) (record { each = λ label l. refl })

pub returns-in_err-smooth : goal.returns-in_err-smooth
returns-in_err-smooth g c =
    let p = err_from_is_err_and c.from_residual.result c.from_residual.ensures.1 in
    record { run = rw (p.1, p.2) (inl refl); metric = λ apart. rw (p.1, p.2) (λ tells. tells) }

pub returns-in_err-pairs : goal.returns-in_err-pairs
returns-in_err-pairs g c =
    let p = err_from_is_err_and c.from_residual-in_err-pairs.result c.from_residual-in_err-pairs.ensures.1 in
    record { run = rw (p.1, p.2) (inl refl); metric = λ apart. rw (p.1, p.2) (λ tells. tells) }

pub is_metric_cost-by_metric-requires-clause-table : goal.is_metric_cost-by_metric-requires-clause-table
is_metric_cost-by_metric-requires-clause-table g c =
    let S : List ℤ → Type 0 = λ t. IsTable c.args.options.now.labels c.args.options.now.labels (shape_cost c.args.options.now.smooth c.args.options.now.trunc) t in
    let table = subst S (sym c.as_slice-table.ensures.value) c.in_ok-smooth.ensures.table in
    (c.args.options.now.trunc, c.requires.options.run.trunc_least, table)

pub returns-in_err-columns : goal.returns-in_err-columns
returns-in_err-columns g c =
    let p = err_from_is_err_and c.from_residual-in_err-columns.result c.from_residual-in_err-columns.ensures.1 in
    record { run = rw (p.1, p.2) (inl refl); metric = λ apart. rw (p.1, p.2) (λ tells. tells) }
