use Rattle.cost_store.proofs.Totals.{sum_of_three}
use Rattle.cost_store.proofs.problem.Problem.energy.Goals as goal

pub returns : goal.returns
returns g c = λ m meant.
    sum_of_three c.data_energy.result c.smooth_energy.result c.label_energy.result _ _ _ c.data_energy.ensures.range.0 c.data_energy.ensures.range.1 c.smooth_energy.ensures.range.0 c.smooth_energy.ensures.range.1
    c.label_energy.ensures.range.0 c.label_energy.ensures.range.1
    (c.data_energy.ensures.energy m meant) (c.smooth_energy.ensures.energy m meant) (c.label_energy.ensures.energy m meant)
