use Rattle.std.proofs.Common.{ℕ, ◌*◌, ◌≤◌}
use Rattle.sums.specs.Sums.{sum_below}
use Rattle.label_energies.specs.Energies.{Instance, IsLabelled}
use Rattle.cost_store.specs.Posed.{IsMeant}
use Rattle.message_bound.specs.Bounds.{IsCheapest}
use Rattle.message_bound.proofs.sites.bound_of_sites.Given as goal

abbrev pub invariant-loop-site : goal.invariant-loop-site
invariant-loop-site g l = record {
  below : (m : Instance) → IsMeant g.F.Fn g.V.Fn l.problem m → (f : ℕ → ℕ) → IsLabelled m f
      → l.total ≤ sum_below l.site (λ p. m.data_cost p (f p));
  cheapest : (m : Instance) → IsMeant g.F.Fn g.V.Fn l.problem m → (h : ℕ → ℕ) → IsCheapest m h
      → sum_below l.site (λ p. m.data_cost p (h p)) ≤ l.total;
  range : l.total ≤ 10000000 * l.site;
}
