use Rattle.std.proofs.Common.{◌∙◌, ◌-ℤ◌, map, pos, sum, vec_len, ap, sym, subst}
use Rattle.flow_network.specs.Cut.{Network, nodes, set_of, IsNet, IsSmallestLeastCut}
use Rattle.compile_cut.specs.Quadratics.{quadratic_value}
use Rattle.compile_cut.specs.Weights.{sink_part}
use Rattle.strip_nets.specs.RowForms.{form_in, row_net}
use Rattle.strip_nets.proofs.Cuts.{cut_least}
use Rattle.strip_nets.proofs.RowSides.{row_nodes, row_is_net, row_value}
use Rattle.strip_nets.proofs.sides.row_side.Goals as goal

pub one_side_of-requires-clause-limits : goal.one_side_of-requires-clause-limits
one_side_of-requires-clause-limits c =
    let h = c.requires.laid in
    subst IsNet (sym c.in_ok-laid.ensures.net) (row_is_net h.0 h.1 c.args.form.now h.2)

pub returns-clause-bits : goal.returns-clause-bits
returns-clause-bits c = c.in_ok-side.ensures.bits ∙ ap (λ (net : Network). nodes net) c.in_ok-laid.ensures.net ∙ row_nodes c.args.form.now

pub returns-clause-least : goal.returns-clause-least
returns-clause-least c =
    let form = c.args.form.now in
    let side = set_of c.in_ok-side.side.items in
    cut_least (vec_len form.weights) (quadratic_value (form_in form)) (row_net form) (pos 0 -ℤ pos (sum (map sink_part form.weights.items))) side
    (row_nodes form) (row_value form)
    (subst (λ (net : Network). IsSmallestLeastCut net side) c.in_ok-laid.ensures.net c.in_ok-side.ensures.smallest)
