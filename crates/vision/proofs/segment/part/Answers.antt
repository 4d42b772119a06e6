use Rattle.std.proofs.Common.{arith, ◌∙◌, List, ℤ, pos, slice_index, refl, sym, ap, subst, inl}
use Rattle.cost_store.specs.Promises.{IsTable}
use Rattle.label_field.specs.PairLists.{PairList}
use Rattle.run_options.specs.Shapes.{shape_cost}
use Rattle.run_options.specs.declared.shape.Shape.TheVariants.{Potts}
use Rattle.vision.specs.Problems.{segment_problem, part_cost}
use Rattle.vision.proofs.Metrics.{potts_metric_table}
use Rattle.vision.proofs.Parts.{part_keeps, samples_long, samples_small}
use Rattle.std.proofs.lemmas.Result.{err_from_is_err_and}
use Rattle.vision.proofs.segment.part.Goals as goal

pub new-data_cost-requires : goal.new-data_cost-requires
new-data_cost-requires g c =
    let picture = c.samples-samples.ensures in
    let seeds = c.samples-marks.ensures in
    part_keeps c.args.options.now c.samples-samples.result.now c.samples-marks.result.now _ c.requires.options
    (samples_long c.args.picture.now _ c.width.result c.height.result picture.valid picture.value c.width.ensures c.height.ensures)
    (samples_long c.args.seeds.now _ c.width.result c.height.result seeds.valid seeds.value (c.width.ensures ∙ c.requires.sizes.0) (c.height.ensures ∙ c.requires.sizes.1))
    (samples_small c.args.picture.now _ picture.valid picture.value)

pub returns-clause-run : goal.returns-clause-run
returns-clause-run g c =
    let o = c.args.options.now in
    let S : List ℤ → Type 0 = λ t. IsTable 2 2 (shape_cost Potts 1) t in
    c.run_job.ensures.run (segment_problem o c.args.picture.now c.args.seeds.now) (rw c.new-data_cost.ensures.stored (record {
      sites_are = sym (ap (λ (l : PairList). l.sites) c.in_ok-pairs.ensures);
      labels_are = refl;
      pairs_are = sym (ap (λ (l : PairList). l.list) c.in_ok-pairs.ensures);
      data_are = λ a b z la lb is. is ∙ (λ k. pos (part_cost o (slice_index (c.samples-samples.ensures.value k) a) (slice_index (c.samples-marks.ensures.value k) a) b));
      table = shape_cost Potts 1;
      weighted = λ weight a b. refl;
      smooth_are = subst S (sym c.as_slice-table.ensures.value) c.in_ok-smooth.ensures.table;
    })) (record { each = λ label l. refl })

pub returns-clause-metric : goal.returns-clause-metric
returns-clause-metric g c =
    let o = c.args.options.now in
    let S : List ℤ → Type 0 = λ t. IsTable 2 2 (shape_cost Potts 1) t in
    let table = subst S (sym c.as_slice-table.ensures.value) c.in_ok-smooth.ensures.table in
    c.run_job.ensures.metric (rw c.new-data_cost.ensures.stored (potts_metric_table 2 1 c.as_slice-table.result.now (omega arith) (omega arith) table))
    (segment_problem o c.args.picture.now c.args.seeds.now) (rw c.new-data_cost.ensures.stored (record {
      sites_are = sym (ap (λ (l : PairList). l.sites) c.in_ok-pairs.ensures);
      labels_are = refl;
      pairs_are = sym (ap (λ (l : PairList). l.list) c.in_ok-pairs.ensures);
      data_are = λ a b z la lb is. is ∙ (λ k. pos (part_cost o (slice_index (c.samples-samples.ensures.value k) a) (slice_index (c.samples-marks.ensures.value k) a) b));
      table = shape_cost Potts 1;
      weighted = λ weight a b. refl;
      smooth_are = table;
    })) (record { each = λ label l. refl })

pub returns-in_err-smooth : goal.returns-in_err-smooth
returns-in_err-smooth g c =
    let p = err_from_is_err_and c.from_residual.result c.from_residual.ensures.1 in
    record { run = rw (p.1, p.2) (inl refl); metric = rw (p.1, p.2) (λ tells. tells) }

pub returns-in_err-pairs : goal.returns-in_err-pairs
returns-in_err-pairs g c =
    let p = err_from_is_err_and c.from_residual-in_err-pairs.result c.from_residual-in_err-pairs.ensures.1 in
    record { run = rw (p.1, p.2) (inl refl); metric = rw (p.1, p.2) (λ tells. tells) }

pub is_metric_cost-by_metric-requires-clause-table : goal.is_metric_cost-by_metric-requires-clause-table
is_metric_cost-by_metric-requires-clause-table g c =
    let S : List ℤ → Type 0 = λ t. IsTable 2 2 (shape_cost Potts 1) t in
    let table = subst S (sym c.as_slice-table.ensures.value) c.in_ok-smooth.ensures.table in
    (1, omega arith, table)
