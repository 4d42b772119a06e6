use Rattle.std.proofs.Common.{◌==◌, not}
use Rattle.label_energies.specs.Energies.{labelling}
use Rattle.move_energy.specs.BySite.{IsListing}
use Rattle.later_swaps.proofs.swap_memory.list_block.Given as goal

abbrev pub invariant-loop-site : goal.invariant-loop-site
invariant-loop-site l = IsListing (λ p. not (labelling l.before p == labelling l.after p)) l.site l.list.items
