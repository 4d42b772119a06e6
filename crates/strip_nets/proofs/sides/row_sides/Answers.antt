use Rattle.std.proofs.Common.{◌∙◌, ◌-ℤ◌, map, pos, sum, vec_len, ap, sym, subst, arith}
use Rattle.flow_network.specs.Cut.{Network, nodes, set_of, with_larger_sinks, AreExtras, IsNet, IsSmallestLeastCut}
use Rattle.flow_network.proofs.Widening.{widened_net}
use Rattle.compile_cut.specs.Quadratics.{quadratic_value}
use Rattle.compile_cut.specs.Weights.{sink_part}
use Rattle.strip_nets.specs.RowForms.{form_in, row_net}
use Rattle.strip_nets.proofs.Cuts.{cut_least, wider_least}
use Rattle.strip_nets.proofs.RowSides.{row_nodes, row_is_net, row_total, row_value}
use Rattle.strip_nets.proofs.sides.row_sides.Goals as goal

pub both_sides_of-requires-clause-extras : goal.both_sides_of-requires-clause-extras
both_sides_of-requires-clause-extras c =
    let form = c.args.form.now in
    let h = c.requires.laid in
    subst (λ (net : Network). AreExtras net c.args.borders.now.items) (sym c.in_ok-laid.ensures.net)
    (widened_net (row_net form) c.args.borders.now.items (row_is_net h.0 h.1 form h.2) (omega (arith, c.requires.count, row_nodes form))
    (omega (arith, row_total h.0 h.1 form h.2, c.requires.small)))

pub both_sides_of-requires-clause-limits : goal.both_sides_of-requires-clause-limits
both_sides_of-requires-clause-limits c =
    let h = c.requires.laid in
    subst IsNet (sym c.in_ok-laid.ensures.net) (row_is_net h.0 h.1 c.args.form.now h.2)

pub returns-clause-lower_bits : goal.returns-clause-lower_bits
returns-clause-lower_bits c = c.in_ok-both.ensures.lower_bits ∙ ap (λ (net : Network). nodes net) c.in_ok-laid.ensures.net ∙ row_nodes c.args.form.now

pub returns-clause-upper_bits : goal.returns-clause-upper_bits
returns-clause-upper_bits c = c.in_ok-both.ensures.upper_bits ∙ ap (λ (net : Network). nodes net) c.in_ok-laid.ensures.net ∙ row_nodes c.args.form.now

pub returns-clause-lower : goal.returns-clause-lower
returns-clause-lower c =
    let form = c.args.form.now in
    let side = set_of c.in_ok-both.both.lower.items in
    cut_least (vec_len form.weights) (quadratic_value (form_in form)) (row_net form) (pos 0 -ℤ pos (sum (map sink_part form.weights.items))) side
    (row_nodes form) (row_value form)
    (subst (λ (net : Network). IsSmallestLeastCut net side) c.in_ok-laid.ensures.net c.in_ok-both.ensures.lower)

pub returns-clause-upper : goal.returns-clause-upper
returns-clause-upper c = λ less lower.
    let form = c.args.form.now in
    let h = c.requires.laid in
    let side = set_of c.in_ok-both.both.upper.items in
    wider_least c.args.borders.now.items (form_in form) less (row_net form) (pos 0 -ℤ pos (sum (map sink_part form.weights.items))) side
    (row_is_net h.0 h.1 form h.2) (row_nodes form) c.requires.count (row_value form) lower
    (subst (λ (net : Network). IsSmallestLeastCut (with_larger_sinks net c.args.borders.now.items) side) c.in_ok-laid.ensures.net c.in_ok-both.ensures.upper)
