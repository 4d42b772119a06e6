use Rattle.site_bounds.specs.Parts.{IsSwept}
use Rattle.site_bounds.proofs.sweeps.sweep_up.Given as goal

abbrev pub invariant-loop-site : goal.invariant-loop-site
invariant-loop-site l = record {
  swept : IsSwept l.form l.from l.site l.fn.known l.known;
}
