use Rattle.std.proofs.Common.{◌≤◌, slice_index, arith}
use borrow.Author.Count.{below_more}
use Rattle.message_bound.proofs.rows.least.Goals as goal

pub loop-label-preserved : goal.loop-label-preserved
loop-label-preserved c = record {
  least = below_more (λ k. c.min-least.result ≤ slice_index c.args.row.now k) c.loop-label.label
      (λ k lk. omega (arith, c.min-least.ensures, c.loop-label.invariant.least k lk)) (omega (arith, c.min-least.ensures));
  most = λ d small all.
      omega (arith, c.min-least.ensures, c.loop-label.invariant.most d small all, all c.loop-label.label c.loop-label-test.true);
}
