use Rattle.std.proofs.Common.{◌∙◌, sym}
use Rattle.std.proofs.lemmas.List.{length-map}
use Rattle.gco_arrays.proofs.Numbers.{counted_numbers}
use Rattle.gco_arrays.proofs.Parts.{ready_is}
use Rattle.gco_arrays.proofs.ready.ready_of.Goals as goal

pub returns-clause-ready : goal.returns-clause-ready
returns-clause-ready g c =
    ready_is _ c.in_ok-sites.sites _ c.in_ok-sites.ensures.sites
    (counted_numbers g.N.Number.value _ c.args.given.now.label_count c.args.given.now.«data».now c.args.given.now.smooth.now c.args.given.now.label_costs.now c.in_ok-sites.ensures.counted)
    c.in_ok-check_ranges.ensures.ok c.in_ok-pairs.ensures.list c.in_ok-pairs.ensures.ok c.in_ok-start.ensures.start c.in_ok-start.ensures.below
    c.in_ok-label_costs.ensures.costs
    (λ empty. c.in_ok-label_costs.ensures.empty (sym (length-map c.args.given.now.label_costs.now g.N.Number.value) ∙ empty))
