use Rattle.std.proofs.Common.{◌≡◌, ◌==◌, ℕ, ◌<◌, not}
use Rattle.label_energies.specs.Energies.{labelling}
use Rattle.move_energy.specs.Choices.{choice_at, choice_of}
use Rattle.near_changes.proofs.opening.choose_each.Given as goal

abbrev pub invariant-loop-site : goal.invariant-loop-site
invariant-loop-site l = (p : ℕ) → p < l.site → choice_at l.choices p ≡ choice_of (not (labelling l.at p == l.alpha))
