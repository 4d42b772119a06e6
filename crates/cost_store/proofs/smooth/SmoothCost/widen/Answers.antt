use Rattle.std.proofs.Common.{◌≡◌, ◌≢◌, arith}
use Rattle.std.proofs.lemmas.Int.{ints}
use Rattle.cost_store.proofs.Rating.{ratio_more}
use Rattle.cost_store.proofs.smooth.SmoothCost.widen.Goals as goal

pub returns-clause-ratio : goal.returns-clause-ratio
returns-clause-ratio g c = λ cost answers so_far.
    let is : cost c.args.first c.args.second ≡ c.unsigned_abs.result =
    omega (arith, ints, c.unsigned_abs.ensures.value, c.cost.ensures.entry cost answers, c.cost.ensures.range.0, c.cost.ensures.range.1) in
    let apart : c.args.first ≢ c.args.second = c.if-first-second.false in
    ratio_more c.args.self.now.labels cost c.args.first c.args.second c.unsigned_abs.result c.args.seen c.with.result c.requires.inside.0 c.requires.inside.1 apart is c.with.ensures.wider
    c.with.ensures.ordered so_far
