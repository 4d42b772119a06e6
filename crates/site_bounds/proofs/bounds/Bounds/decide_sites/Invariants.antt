use Rattle.std.proofs.Common.{◌≡◌, ◌-◌, length}
use Rattle.site_bounds.proofs.Course.{IsUnderWay}
use Rattle.site_bounds.proofs.bounds.Bounds.decide_sites.Given as goal

abbrev pub invariant-loop-site : goal.invariant-loop-site
invariant-loop-site l = record {
  same : l.self.summed ≡ l.site;
  way : IsUnderWay l.form l.fn.self l.self;
}

abbrev pub decreases-loop-site : goal.decreases-loop-site
decreases-loop-site l = length l.form.at.now - l.site
