use Rattle.std.proofs.Common.{ℕ, ◌<◌, map}
use Rattle.gco_arrays.specs.PairCalls.{HasPrice}
use Rattle.gco_arrays.proofs.prices.PairPrices.check.Given as goal

abbrev pub invariant-loop-place : goal.invariant-loop-place
invariant-loop-place g l =
    (n : ℕ) → n < l.place
    → HasPrice l.fn.self.labels l.fn.table_count (map g.N.Number.value l.fn.self.tables.now) l.fn.self.pairs.now l.fn.self.table_of.now n
