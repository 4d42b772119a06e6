use Rattle.std.proofs.Common.{◌<◌, ap, sym, add-one, arith}
use Rattle.sums.specs.Sums.{sum_below}
use Rattle.message_bound.proofs.sites.bound_of_sites.Goals as goal

pub loop-site-preserved : goal.loop-site-preserved
loop-site-preserved g c = record {
  below = λ m meant f labelled.
      let s = c.loop-site.site in
      let next = ap (λ k. sum_below k (λ p. m.data_cost p (f p))) (sym (add-one s)) in
      let here : s < m.sites = omega (arith, c.loop-site-test.true, c.sites-site-end.ensures.value, meant.sites_are) in
      let own : f s < c.args.problem.now.data_cost.labels = omega (arith, labelled s here, meant.labels_are) in
      omega (arith, next, c.loop-site.invariant.below m meant f labelled, c.least_cost-total.ensures.least m meant (f s) own);
  cheapest = λ m meant h is.
      let s = c.loop-site.site in
      let next = ap (λ k. sum_below k (λ p. m.data_cost p (h p))) (sym (add-one s)) in
      let here : s < m.sites = omega (arith, c.loop-site-test.true, c.sites-site-end.ensures.value, meant.sites_are) in
      omega (arith, next, c.loop-site.invariant.cheapest m meant h is, c.least_cost-total.ensures.most m meant (m.data_cost s (h s)) (λ l ll. is s l here (omega (arith, ll, meant.labels_are))));
  range = omega (arith, c.loop-site.invariant.range, c.least_cost-total.ensures.range);
}
