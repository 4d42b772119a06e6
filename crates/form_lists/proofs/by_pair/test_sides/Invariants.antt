use Rattle.std.proofs.Common.{◌≡◌, ℕ, List, All, take, length}
use Rattle.label_energies.specs.declared.change.Move.{Move}
use Rattle.label_energies.specs.Energies.{Instance, labelling}
use Rattle.label_energies.specs.Moves.{IsRegularPair}
use Rattle.form_lists.specs.PairSides.{AreSidesRead}
use Rattle.form_lists.proofs.by_pair.test_sides.Given as goal

abbrev pub invariant-loop-index : goal.invariant-loop-index
invariant-loop-index l = (m : Instance) (move : Move) (at : List ℕ) → length l.sides ≡ length m.pairs
    → AreSidesRead m move (labelling at) l.sides → All (IsRegularPair m move (labelling at)) (take l.index m.pairs)
