use Rattle.std.proofs.Common.{◌≡◌, ℕ, ◌<◌, ◌≤◌}
use Rattle.move_energy.specs.Choices.{choice_at}
use Rattle.strip_nets.proofs.untold.untold_from.Given as goal

abbrev pub invariant-back : goal.invariant-back
invariant-back l = record {
  within : l.untold ≤ l.sites.to;
  inside : l.untold < l.sites.to → l.sites.from ≤ l.untold;
  same : (p : ℕ) → l.untold ≤ p → p < l.sites.to → choice_at l.material.known.now p ≡ choice_at l.material.start.now p;
}

abbrev pub decreases-back : goal.decreases-back
decreases-back l = l.untold
