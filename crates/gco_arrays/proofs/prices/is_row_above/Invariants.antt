use Rattle.std.proofs.Common.{ℕ, ◌*◌, ◌<◌, ◌≤◌, map}
use Rattle.cost_store.specs.Limits.{pair_cost_limit}
use Rattle.cost_store.specs.Promises.{cost_in}
use Rattle.gco_arrays.proofs.prices.is_row_above.Given as goal

abbrev pub invariant-loop-second : goal.invariant-loop-second
invariant-loop-second g l =
    (b : ℕ) → b < l.second → l.fn.weight * cost_in l.fn.labels (map g.N.Number.value l.fn.tables) l.fn.row b ≤ pair_cost_limit
