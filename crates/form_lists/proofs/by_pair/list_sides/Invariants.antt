use Rattle.std.proofs.Common.{◌≡◌, ◌<◌, ℕ, length}
use Rattle.label_energies.specs.Energies.{Instance, labelling}
use Rattle.cost_store.specs.Posed.{IsMeant}
use Rattle.move_energy.specs.BySite.{pair_in}
use Rattle.form_lists.specs.PairSides.{AreSidesOf, AreSidesSmall, sides_in}
use Rattle.form_lists.proofs.by_pair.list_sides.Given as goal

abbrev pub invariant-loop-index : goal.invariant-loop-index
invariant-loop-index g l = record {
  count : length l.sides.items ≡ l.index;
  small : (i : ℕ) → i < l.index → AreSidesSmall (sides_in l.sides.items i);
  read : (m : Instance) → IsMeant g.F.Fn g.V.Fn l.problem m → (i : ℕ) → i < l.index
      → AreSidesOf m l.change (labelling l.at) (pair_in m.pairs i) (sides_in l.sides.items i);
}
