use Rattle.std.proofs.Common.{◌<◌, arith}
use Rattle.form_lists.proofs.smooth_costs.ask_both.Goals as goal

pub returns-clause-both : goal.returns-clause-both
returns-clause-both g c = λ m meant marked.
    let a = c.args in
    let one = c.ask_cost-cost.ensures.cost m meant in
    let two = c.ask_cost-mirrored.ensures.cost m meant in
    let other : a.other < 256 = omega (arith, c.requires.labels.1, c.requires.few) in
    (two.kept a.label a.other other one.cost, two.cost)

pub returns-clause-kept : goal.returns-clause-kept
returns-clause-kept g c = λ m meant one other l had.
    (c.ask_cost-mirrored.ensures.cost m meant).kept one other l ((c.ask_cost-cost.ensures.cost m meant).kept one other l had)
