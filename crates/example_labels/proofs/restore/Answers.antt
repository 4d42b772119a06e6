use Rattle.std.proofs.Common.{◌∙◌, refl, w64, slice_index}
use Rattle.std.proofs.lemmas.Int.{to_z-of_z}
use Rattle.std.proofs.lemmas.Result.{err_from_is_err_and}
use Rattle.graph_cuts.specs.Grids.{distance}
use Rattle.graph_cuts.specs.Metrics.{potts}
use Rattle.example_labels.specs.Pictures.{problem_of}
use Rattle.example_labels.proofs.restore.Goals as goal

pub returns-in_err-ended-clause-refused : goal.returns-in_err-ended-clause-refused
returns-in_err-ended-clause-refused c =
    let p = err_from_is_err_and c.from_residual-in_err-ended.result c.from_residual-in_err-ended.ensures.1 in
    let means = rw (c.in_ok-pairs.ensures, c.new-data_cost.ensures.stored) at c.new-problem.ensures.means in
    let meant = means (λ site level. distance (slice_index c.args.samples.now site) level) potts (λ a b z la lb is. is) (λ a b z la lb is. is) in
    rw (p.1, p.2) (c.alone_refuses_memory.ensures _ (c.in_err-ended.ensures.over_metric (problem_of c.args.samples.now) meant
    (record { table = potts; weighted = λ weight a b. refl; metric = (c.potts_is_metric.ensures 3).metric })))

pub returns : goal.returns
returns c =
    let means = rw (c.in_ok-pairs.ensures, c.new-data_cost.ensures.stored) at c.new-problem.ensures.means in
    let meant = means (λ site level. distance (slice_index c.args.samples.now site) level) potts (λ a b z la lb is. is) (λ a b z la lb is. is) in
    let energy = to_z-of_z w64 c.energy-energy.result (record { sfits = c.energy-energy.type_inv }) ∙ c.energy-energy.ensures _ meant in record {
      run = rw c.in_ok-labelling.ensures at (c.in_ok-ended.ensures.run _ meant);
      near = λ settled h lh. rw energy (c.potts_run_is_near.ensures (problem_of c.args.samples.now) c.run_expansion.new.labelling.at h (λ weight a b. refl) (λ label below. refl) (c.in_ok-ended.ensures.near _ meant settled) lh);
      energy = energy;
      refused = tt;
    }
