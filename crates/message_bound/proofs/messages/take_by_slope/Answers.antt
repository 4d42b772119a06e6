use Rattle.std.proofs.Common.{◌*◌, ap, arith}
use Rattle.message_bound.specs.Costs.{square_apart}
use Rattle.message_bound.proofs.Gentle.{weighted_min}
use Rattle.message_bound.proofs.messages.take_by_slope.Goals as goal

pub returns-then-level-clause-paid : goal.returns-then-level-clause-paid
returns-then-level-clause-paid c = λ yes costs square a b la lb.
    let due = c.take_squares.ensures.paid a b la lb in
    let cost = ap (λ k. c.args.weight * k) (square a b la lb) in
    omega (arith, due, cost, weighted_min c.args.weight c.args.slope.step (square_apart a b) c.args.slope.most)
