use Rattle.std.proofs.Common.{◌≡◌, ℕ, ◌<◌, ◌≤◌, false}
use Rattle.move_energy.specs.Choices.{open_at}
use Rattle.near_changes.proofs.opening.has_open.Given as goal

abbrev pub invariant-loop-site : goal.invariant-loop-site
invariant-loop-site l = l.any ≡ false → (p : ℕ) → l.from ≤ p → p < l.site → open_at l.choices p ≡ false
