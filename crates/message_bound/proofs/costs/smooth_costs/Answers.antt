use Rattle.std.proofs.Common.{◌+◌, ◌*◌, ◌∙◌, arith}
use Rattle.std.proofs.lemmas.Nat.{mul-add-lt, div-mul-add, mod-mul-add}
use Rattle.message_bound.specs.Costs.{parts}
use Rattle.message_bound.proofs.costs.smooth_costs.Goals as goal

pub returns-clause-costs : goal.returns-clause-costs
returns-clause-costs g c = λ m meant a b weight la lb.
    let w = c.args.problem.now.data_cost.labels in
    let at = c.loop-place.invariant.each m meant (a * w + b) weight (omega (arith, mul-add-lt a w b w la lb, c.loop-place-test.false)) in
    at ∙ (λ i. parts * m.smooth_cost weight (div-mul-add a w b lb i) (mod-mul-add a w b lb i))
