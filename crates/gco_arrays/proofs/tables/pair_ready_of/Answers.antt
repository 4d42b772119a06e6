use Rattle.std.proofs.Common.{◌∙◌, sym}
use Rattle.std.proofs.lemmas.List.{length-map}
use Rattle.std.proofs.lemmas.Result.{err_from_is_err_and}
use Rattle.gco_arrays.proofs.PairParts.{late_refused, pair_ready_is, priced_call}
use Rattle.gco_arrays.proofs.tables.pair_ready_of.Goals as goal

pub returns-in_err-label_costs-clause-refused : goal.returns-in_err-label_costs-clause-refused
returns-in_err-label_costs-clause-refused g c =
    let p = err_from_is_err_and c.from_residual-in_err-label_costs.result c.from_residual-in_err-label_costs.ensures.1 in
    rw (p.1, p.2) (late_refused _ c.in_err-label_costs.field-0.0
    (priced_call g.N.Number.value c.args.given.now c.args.at.now c.in_ok-sites.sites c.prices_of.result c.in_ok-sites.ensures.sites c.in_ok-sites.ensures.counted
    c.in_ok-check_tables.ensures.counted c.in_ok-check_ranges.ensures.ok c.in_ok-check_entries.ensures.ok c.in_ok-pairs.ensures.ok c.prices_of.ensures c.in_ok-check.ensures.priced)
    c.in_err-label_costs.ensures.refused)

pub returns-clause-ready : goal.returns-clause-ready
returns-clause-ready g c =
    pair_ready_is _ c.in_ok-sites.sites _ c.in_ok-sites.ensures.sites
    (priced_call g.N.Number.value c.args.given.now c.args.at.now c.in_ok-sites.sites c.prices_of.result c.in_ok-sites.ensures.sites c.in_ok-sites.ensures.counted
    c.in_ok-check_tables.ensures.counted c.in_ok-check_ranges.ensures.ok c.in_ok-check_entries.ensures.ok c.in_ok-pairs.ensures.ok c.prices_of.ensures c.in_ok-check.ensures.priced)
    c.in_ok-pairs.ensures.list c.in_ok-start.ensures.start c.in_ok-start.ensures.below c.in_ok-label_costs.ensures.costs
    (λ empty. c.in_ok-label_costs.ensures.empty (sym (length-map c.args.given.now.arrays.label_costs.now g.N.Number.value) ∙ empty))
