use Rattle.std.proofs.Common.{ℕ, ◌+◌, ◌*◌, ◌<◌, map}
use Rattle.gco_arrays.specs.PairRefusals.{IsRowTooDear}
use Rattle.gco_arrays.proofs.prices.is_table_above.Given as goal

abbrev pub invariant-loop-first : goal.invariant-loop-first
invariant-loop-first g l =
    (a : ℕ) → a < l.first → ¬ IsRowTooDear l.fn.labels (map g.N.Number.value l.fn.tables) (l.fn.number * l.fn.labels + a) l.fn.weight
