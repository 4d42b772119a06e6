use Rattle.std.proofs.Common.{◌≡◌, ◌+◌, length}
use Rattle.label_energies.proofs.Swaps.{swaps_before}
use Rattle.label_energies.proofs.cycles.swap_at.Given as goal

abbrev pub invariant-loop-alpha : goal.invariant-loop-alpha
invariant-loop-alpha l = record { counted : length (swaps_before l.labels l.alpha) + l.left ≡ l.place }
