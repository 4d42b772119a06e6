use Rattle.std.proofs.Common.{◌+◌, ◌*◌, ℕ, map, arith}
use Rattle.gco_arrays.specs.PairRefusals.{IsRowTooDear}
use Rattle.gco_arrays.proofs.PairCosts.{one_more}
use Rattle.gco_arrays.proofs.prices.is_table_above.Goals as goal

pub loop-first-preserved : goal.loop-first-preserved
loop-first-preserved g c =
    let P : ℕ → Type 0 = λ a. ¬ IsRowTooDear c.args.labels (map g.N.Number.value c.args.tables.now) (c.args.number * c.args.labels + a) c.args.weight in
    one_more P c.loop-first.first c.loop-first.invariant
    (λ dear. let truly = c.is_row_above.ensures.1 dear in cc)

pub returns : goal.returns
returns g c = (
  λ never. absurd (cc (never)),
  λ dear. absurd (c.loop-first.invariant dear.0 (omega (arith, dear.1, c.loop-first-test.false)) dear.2),
)
