use Rattle.std.proofs.Common.{◌∙◌, sym}
use Rattle.label_energies.specs.Energies.{labelling}
use Rattle.strip_nets.specs.RowForms.{form_in}
use Rattle.strip_nets.proofs.Bounding.{sides_bound}
use Rattle.strip_nets.proofs.cutting.cut_strip.Goals as goal

pub returns-clause-tells : goal.returns-clause-tells
returns-clause-tells c = λ m move read weighs.
    let a = c.args in
    let f = labelling a.material.now.form.at.now in
    let form = c.build_strip.new.form in
    let built = c.in_ok-build_strip.ensures in
    let found = c.in_ok-sides.ensures in
    sides_bound m move f a.material.now.known.now a.sites.now (form_in form) c.build_strip.new.borders.items c.in_ok-sides.sides read.instance read.allowed
    (c.requires.can.count ∙ sym read.sites_are) c.requires.opened (built.sized.count ∙ sym built.sized.rows.nodes) built.sized.rows.nodes (built.built m move read weighs) found.lower found.upper

pub row_sides-requires-clause-laid : goal.row_sides-requires-clause-laid
row_sides-requires-clause-laid c = (_, _, c.in_ok-build_strip.ensures.sized.rows)
