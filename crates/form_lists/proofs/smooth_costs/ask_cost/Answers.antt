use Rattle.std.proofs.Common.{◌<◌, ◌+◌, ◌*◌, refl, length, arith}
use Rattle.form_lists.proofs.Asking.{written_cost, written_small}
use Rattle.form_lists.proofs.smooth_costs.ask_cost.Goals as goal

pub returns-clause-cost : goal.returns-clause-cost
returns-clause-cost g c = λ m meant.
    let a = c.args in
    let few = c.requires.few in
    let inside : a.one * 256 + a.other < length a.costs.now = omega (arith, c.requires.labels.0, c.requires.labels.1, few, c.requires.size) in
    written_cost m a.one a.other _ c.cost_of-cost.result a.costs.now (omega (arith, c.requires.labels.1, few)) refl inside (c.cost_of-cost.ensures.cost m meant)

pub returns-clause-small : goal.returns-clause-small
returns-clause-small g c = λ each.
    let a = c.args in
    let few = c.requires.few in
    let inside : a.one * 256 + a.other < length a.costs.now = omega (arith, c.requires.labels.0, c.requires.labels.1, few, c.requires.size) in
    written_small _ c.cost_of-cost.result a.costs.now inside c.cost_of-cost.ensures.small each
