use Rattle.std.proofs.Common.{◌∙◌, w64, slice_index}
use Rattle.std.proofs.lemmas.Int.{to_z-of_z}
use Rattle.graph_cuts.specs.Grids.{distance}
use Rattle.graph_cuts.specs.Metrics.{potts}
use Rattle.example_steps.proofs.restore.Goals as goal

pub returns : goal.returns
returns g c =
    let means = rw (c.in_ok-pairs.ensures, c.new-data_cost.ensures.stored) at c.new-problem.ensures.means in
    let meant = means (λ site level. distance (slice_index c.args.samples.now site) level) potts (λ a b z la lb is. is) (λ a b z la lb is. is) in record {
      come = rw c.in_ok-labelling.ensures at (c.in_ok-left.ensures.come _ meant);
      energy = to_z-of_z w64 c.energy-energy.result (record { sfits = c.energy-energy.type_inv }) ∙ c.energy-energy.ensures _ meant;
    }
