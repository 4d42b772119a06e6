use Rattle.std.proofs.Common.{◌≡◌, ◌<◌, ℕ, true, get_or}
use Rattle.label_energies.specs.Energies.{labelling}
use Rattle.near_changes.specs.Looking.{is_marked}
use Rattle.pseudo_bool.specs.Energies.{assignment}
use Rattle.near_swaps.proofs.looking.are_same.Given as goal

abbrev pub invariant-loop-index : goal.invariant-loop-index
invariant-loop-index l = (k : ℕ) → k < l.index → is_marked l.taken (get_or l.opened k 0) ≡ true
    → assignment l.bits.lower.items (labelling l.numbers (get_or l.opened k 0)) ≡ assignment l.bits.upper.items (labelling l.numbers (get_or l.opened k 0))
