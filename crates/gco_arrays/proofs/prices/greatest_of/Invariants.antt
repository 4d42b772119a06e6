use Rattle.std.proofs.Common.{◌≤◌, All, map, take, pos, ◌≤ℤ◌}
use Rattle.cost_store.specs.Limits.{site_cost_limit}
use Rattle.gco_arrays.proofs.prices.greatest_of.Given as goal

abbrev pub invariant-loop-place : goal.invariant-loop-place
invariant-loop-place g l =
    (l.most ≤ site_cost_limit) × All (λ cost. cost ≤ℤ pos l.most) (take l.place (map g.N.Number.value l.fn.tables))
