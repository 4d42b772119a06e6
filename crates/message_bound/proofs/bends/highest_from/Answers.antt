use Rattle.std.proofs.Common.{arith}
use Rattle.message_bound.proofs.Level.{highest_at}
use Rattle.message_bound.proofs.bends.highest_from.Goals as goal

pub returns-else-rises-clause-highest : goal.returns-else-rises-clause-highest
returns-else-rises-clause-highest c =
    highest_at c.args.numbers.now c.args.step c.args.label c.loop-place.place c.requires.level c.loop-place.invariant.inside c.loop-place.invariant.rise
    (λ more. c.rises.ensures.no c.if-rises.false)

pub returns-after-loop-place-clause-highest : goal.returns-after-loop-place-clause-highest
returns-after-loop-place-clause-highest c =
    highest_at c.args.numbers.now c.args.step c.args.label c.loop-place.place c.requires.level c.loop-place.invariant.inside c.loop-place.invariant.rise
    (λ more. omega (arith, more, c.loop-place-test.false))
