use Rattle.std.proofs.Common.{◌≤◌, arith}
use borrow.Author.Count.{below_more}
use Rattle.message_bound.proofs.sites.least_cost.Goals as goal

pub loop-label-preserved : goal.loop-label-preserved
loop-label-preserved g c = record {
  least = λ m meant. below_more (λ k. c.min-least.result ≤ m.data_cost c.args.site k) c.loop-label.label
      (λ k lk. omega (arith, c.min-least.ensures, c.loop-label.invariant.least m meant k lk))
      (omega (arith, c.min-least.ensures, c.cost_of-least.ensures.cost m meant));
  most = λ m meant d all.
      omega (arith, c.min-least.ensures, c.cost_of-least.ensures.cost m meant, c.loop-label.invariant.most m meant d all, all c.loop-label.label c.loop-label-test.true);
  range = omega (arith, c.min-least.ensures, c.loop-label.invariant.range);
}
