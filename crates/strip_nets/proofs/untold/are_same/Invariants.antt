use Rattle.std.proofs.Common.{◌≡◌, ℕ, ◌<◌, ◌≤◌, false}
use Rattle.move_energy.specs.Choices.{choice_at}
use Rattle.strip_nets.proofs.untold.are_same.Given as goal

abbrev pub invariant-loop-site : goal.invariant-loop-site
invariant-loop-site l = l.other ≡ false → (p : ℕ) → l.from ≤ p → p < l.site → choice_at l.known p ≡ choice_at l.start p
