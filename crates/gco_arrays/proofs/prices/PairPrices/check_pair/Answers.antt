use Rattle.std.proofs.Common.{◌∙◌, map}
use Rattle.std.proofs.lemmas.List.{length-map}
use Rattle.gco_arrays.proofs.PairCosts.{priced_most, priced_table, weight_at}
use Rattle.gco_arrays.proofs.prices.PairPrices.check_pair.Goals.{else-from-most-gt-PAIR_COST_LIMIT-via-then-from-most-gt-PAIR_COST_LIMIT+else-is_table_above, else-from-most-gt-PAIR_COST_LIMIT-via-else-from-most-gt-PAIR_COST_LIMIT}
use Rattle.gco_arrays.proofs.prices.PairPrices.check_pair.Goals as goal

pub returns-clause-priced : goal.returns-clause-priced
returns-clause-priced g c =
    let value = g.N.Number.value in
    let prices = c.args.self.now in
    let weighs = weight_at prices.pairs.now c.args.place _ c.requires.place in
    elim c.else-from-most-gt-PAIR_COST_LIMIT.branch [
      | else-from-most-gt-PAIR_COST_LIMIT-via-then-from-most-gt-PAIR_COST_LIMIT+else-is_table_above w ↦
          priced_table prices.labels c.args.table_count (map value prices.tables.now) prices.pairs.now prices.table_of.now c.args.place c.table_number-number.result _
          c.table_number-number.ensures c.if-number-table_count.false weighs (λ dear. let truly = w.is_table_above.ensures.1 dear in cc)
      | else-from-most-gt-PAIR_COST_LIMIT-via-else-from-most-gt-PAIR_COST_LIMIT w ↦
          priced_most prices.labels c.args.table_count (map value prices.tables.now) prices.pairs.now prices.table_of.now c.args.place c.table_number-number.result c.from.result c.args.most
          (length-map prices.tables.now value ∙ c.requires.counted.tables_are) c.requires.range c.requires.most.1 c.table_number-number.ensures c.if-number-table_count.false
          (c.from.ensures ∙ weighs) w.if-from-most-gt-PAIR_COST_LIMIT.false
    ]
