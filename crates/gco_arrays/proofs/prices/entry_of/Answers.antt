use Rattle.std.proofs.Common.{◌∙◌, ap, map, rules, unsigned_abs, w64, FitsSigned}
use Rattle.std.proofs.lemmas.Int.{to_z-of_z}
use Rattle.gco_arrays.proofs.Numbers.{inside_numbers, number_at}
use Rattle.gco_arrays.proofs.PairCosts.{cost_small}
use Rattle.gco_arrays.proofs.prices.entry_of.Goals as goal

pub returns-clause-range : goal.returns-clause-range
returns-clause-range g c = λ costs.
    let value = g.N.Number.value in
    let fits : FitsSigned w64 c.wide.result = record { sfits = search rules } in
    cost_small (map value c.args.tables.now) c.args.place c.unsigned_abs.result costs (inside_numbers value c.args.tables.now c.args.place c.requires.inside)
    (rw (to_z-of_z w64 c.wide.result fits) at c.unsigned_abs.ensures.value
    ∙ ap unsigned_abs (number_at value c.args.tables.now c.args.place c.index-tables-place.result c.wide.result c.requires.inside c.index-tables-place.is c.wide.ensures))
