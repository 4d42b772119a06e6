use Rattle.std.proofs.Common.{◌*◌, ap, arith}
use Rattle.label_field.specs.Grids.{distance}
use Rattle.message_bound.proofs.Gentle.{weighted_min}
use Rattle.message_bound.proofs.messages.is_within_slope.Goals as goal

pub returns : goal.returns
returns c = λ yes costs slope a b la lb.
    let near = c.are_gentle.ensures yes a b la lb in
    let cost = ap (λ k. c.args.weight * k) (slope a b la lb) in
    omega (arith, near, cost, weighted_min c.args.weight c.args.slope.step (distance a b) c.args.slope.most)
