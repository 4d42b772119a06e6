use Rattle.std.proofs.Common.{pos, ap, ◌∙◌}
use Rattle.move_energy.proofs.RiseNumbers.{difference_is}
use Rattle.move_energy.proofs.site_costs.data_rise.Goals as goal

pub returns-clause-rise : goal.returns-clause-rise
returns-clause-rise g c = λ m answers.
    difference_is c.site_cost.result c.site_cost-2.result _ _
    (c.site_cost.ensures.cost m answers ∙ ap (λ l. pos (m.data_cost c.args.site l)) c.label-turns.ensures)
    (c.site_cost-2.ensures.cost m answers ∙ ap (λ l. pos (m.data_cost c.args.site l)) c.label-stays.ensures)
    c.site_cost.ensures.range c.site_cost-2.ensures.range
