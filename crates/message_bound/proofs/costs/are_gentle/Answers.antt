use Rattle.std.proofs.Common.{arith}
use borrow.Author.Tests.{leb-true}
use Rattle.message_bound.proofs.Gentle.{gentle_from}
use Rattle.message_bound.proofs.costs.are_gentle.Goals as goal

pub returns : goal.returns
returns c = λ yes.
    gentle_from c.args.numbers.now c.args.step c.args.most c.loop-index.least c.loop-index.greatest
    (λ k l. c.loop-index.invariant.near k (omega (arith, l, c.loop-index-test.false)))
    (λ k l. c.loop-index.invariant.between k (omega (arith, l, c.loop-index-test.false)))
    (omega (arith, leb-true c.loop-index.greatest c.saturating_add.result yes, c.saturating_add.ensures))
