use Rattle.std.proofs.Common.{◌≡◌, ℕ, ◌<◌, ◌≤◌, false}
use Rattle.label_energies.specs.Energies.{labelling}
use Rattle.site_bounds.specs.Listed.{changes}
use Rattle.site_bounds.proofs.lists.has_change.Given as goal

abbrev pub invariant-loop-site : goal.invariant-loop-site
invariant-loop-site l = l.any ≡ false → (p : ℕ) → l.from ≤ p → p < l.site → changes l.change (labelling l.at) l.choices p ≡ false
