use Rattle.std.proofs.Common.{All, take}
use Rattle.cost_store.specs.Posed.{IsMeant}
use Rattle.label_energies.specs.Energies.{Instance, labelling}
use Rattle.label_energies.specs.Moves.{IsRegularPair}
use Rattle.move_energy.proofs.regular_terms.test_terms.Given as goal

abbrev pub invariant-loop-index : goal.invariant-loop-index
invariant-loop-index g l = (m : Instance) → IsMeant g.F.Fn g.V.Fn l.problem m → All (IsRegularPair m l.change (labelling l.at)) (take l.index m.pairs)
