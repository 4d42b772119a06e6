use Rattle.std.proofs.Common.{◌≤◌, ◌*◌, ℕ, map, arith}
use Rattle.cost_store.specs.Limits.{pair_cost_limit}
use Rattle.cost_store.specs.Promises.{cost_in}
use Rattle.gco_arrays.proofs.PairCosts.{one_more, times_fits, times_is}
use Rattle.gco_arrays.proofs.prices.is_row_above.Goals as goal

pub overflow_mul-from : goal.overflow_mul-from
overflow_mul-from g c =
    record { fits = times_fits c.from.result c.entry_of-entry.result (omega (arith, c.from.ensures, c.ranges.weight.fits)) (c.entry_of-entry.ensures.range c.requires.range) }

pub loop-second-preserved : goal.loop-second-preserved
loop-second-preserved g c =
    let P : ℕ → Type 0 = λ b. c.args.weight * cost_in c.args.labels (map g.N.Number.value c.args.tables.now) c.args.row b ≤ pair_cost_limit in
    one_more P c.loop-second.second c.loop-second.invariant
    (times_is c.from.result c.args.weight c.entry_of-entry.result _ c.from.ensures c.entry_of-entry.ensures.entry c.if-from-entry-gt-PAIR_COST_LIMIT.false)
