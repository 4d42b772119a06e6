use Rattle.std.proofs.Common.{◌==◌, ◌-◌, ◌≤◌, length, not}
use Rattle.label_energies.specs.Energies.{labelling}
use Rattle.move_energy.specs.BySite.{IsListing}
use Rattle.later_swaps.proofs.swap_memory.list_changed.Given as goal

abbrev pub invariant-loop-from : goal.invariant-loop-from
invariant-loop-from l = record {
  within : l.from ≤ length l.before;
  listed : IsListing (λ p. not (labelling l.before p == labelling l.after p)) l.from l.list.items;
}

abbrev pub decreases-loop-from : goal.decreases-loop-from
decreases-loop-from l = length l.before - l.from
