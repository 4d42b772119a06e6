use Rattle.std.proofs.Common.{◌≡◌, ◌≤◌, ◌*◌, take, sum_by}
use Rattle.label_energies.specs.Energies.{Instance, labelling, pair_cost}
use Rattle.cost_store.specs.Posed.{IsMeant}
use Rattle.cost_store.proofs.problem.Problem.smooth_energy.Given as goal

abbrev pub invariant-loop-index : goal.invariant-loop-index
invariant-loop-index g l = record {
  small : l.total ≤ 10000000 * l.index;
  so_far : (m : Instance) → IsMeant g.F.Fn g.V.Fn l.self m →
      l.total ≡ sum_by (pair_cost m (labelling l.labelling.at)) (take l.index m.pairs);
}
