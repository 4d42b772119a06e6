use Rattle.std.proofs.Common.{◌≡◌, ◌≤◌, ◌*◌}
use Rattle.sums.specs.Sums.{sum_below}
use Rattle.label_energies.specs.Energies.{Instance, labelling}
use Rattle.cost_store.specs.Posed.{IsMeant}
use Rattle.cost_store.proofs.problem.Problem.data_energy.Given as goal

abbrev pub invariant-loop-site : goal.invariant-loop-site
invariant-loop-site g l = record {
  small : l.total ≤ 10000000 * l.site;
  so_far : (m : Instance) → IsMeant g.F.Fn g.V.Fn l.self m →
      l.total ≡ sum_below l.site (λ p. m.data_cost p (labelling l.labelling.at p));
}
