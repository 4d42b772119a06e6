use Rattle.std.proofs.Common.{◌≡◌, ◌==◌, ℕ, ◌<◌, ◌≤◌, false, not}
use Rattle.label_energies.specs.Energies.{labelling}
use Rattle.later_swaps.proofs.swap_memory.has_changed.Given as goal

abbrev pub invariant-loop-site : goal.invariant-loop-site
invariant-loop-site l = l.any ≡ false → (p : ℕ) → l.from ≤ p → p < l.site → not (labelling l.before p == labelling l.after p) ≡ false
