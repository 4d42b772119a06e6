use Rattle.std.proofs.Common.{◌≡◌, ◌<◌, ℕ, true}
use Rattle.label_energies.specs.Energies.{labelling}
use Rattle.form_lists.specs.Lists.{AreAskedCosts, KeepsAsked, was_asked}
use Rattle.form_lists.proofs.smooth_costs.AskedCosts.ask_sites.Given as goal

abbrev pub invariant-loop-site : goal.invariant-loop-site
invariant-loop-site g l = record {
  known : AreAskedCosts g.F.Fn g.V.Fn l.problem l.self;
  sites : (u : ℕ) → u < l.site → was_asked l.self (labelling l.at u) ≡ true;
  kept : KeepsAsked l.problem.data_cost.labels l.fn.self l.self;
}
