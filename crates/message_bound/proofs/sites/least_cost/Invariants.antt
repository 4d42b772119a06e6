use Rattle.std.proofs.Common.{ℕ, ◌<◌, ◌≤◌}
use Rattle.label_energies.specs.Energies.{Instance}
use Rattle.cost_store.specs.Posed.{IsMeant}
use Rattle.cost_store.specs.Limits.{site_cost_limit}
use Rattle.message_bound.proofs.sites.least_cost.Given as goal

abbrev pub invariant-loop-label : goal.invariant-loop-label
invariant-loop-label g l = record {
  least : (m : Instance) → IsMeant g.F.Fn g.V.Fn l.problem m → (k : ℕ) → k < l.label → l.least ≤ m.data_cost l.site k;
  most : (m : Instance) → IsMeant g.F.Fn g.V.Fn l.problem m → (c : ℕ)
      → ((k : ℕ) → k < l.problem.data_cost.labels → c ≤ m.data_cost l.site k) → c ≤ l.least;
  range : l.least ≤ site_cost_limit;
}
