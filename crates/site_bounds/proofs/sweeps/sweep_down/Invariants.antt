use Rattle.std.proofs.Common.{◌≤◌, ◌-◌}
use Rattle.site_bounds.specs.Parts.{IsSwept}
use Rattle.site_bounds.proofs.sweeps.sweep_down.Given as goal

abbrev pub invariant-loop-site : goal.invariant-loop-site
invariant-loop-site l = record {
  range : (l.from ≤ l.site) × (l.site ≤ l.to);
  swept : IsSwept l.form l.site l.to l.fn.known l.known;
}

abbrev pub decreases-loop-site : goal.decreases-loop-site
decreases-loop-site l = l.site - l.from
