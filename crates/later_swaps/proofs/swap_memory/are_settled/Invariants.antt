use Rattle.std.proofs.Common.{◌≡◌, ◌<◌, ℕ}
use Rattle.label_energies.specs.Energies.{labelling}
use Rattle.near_swaps.specs.Swaps.{kept_values}
use Rattle.one_move.specs.Building.{site_values}
use Rattle.later_swaps.proofs.swap_memory.are_settled.Given as goal

abbrev pub invariant-loop-site : goal.invariant-loop-site
invariant-loop-site l = l.unlike ≡ 0 → (p : ℕ) → p < l.site → site_values l.choices p ≡ kept_values l.beta (labelling l.at) p
