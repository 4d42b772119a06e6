use Rattle.std.proofs.Common.{◌∙◌, sym, ap}
use Rattle.label_energies.specs.Energies.{labelling}
use Rattle.move_energy.specs.Choices.{open_count}
use Rattle.move_energy.proofs.Opened.{opened_count}
use Rattle.near_swaps.proofs.Bounds.{lowered_sites, two_bounds}
use Rattle.near_swaps.proofs.looking.find_bounds.Goals as goal

pub look_read-requires-clause-opened : goal.look_read-requires-clause-opened
look_read-requires-clause-opened c =
    let each = rw (c.deref.ensures.value) at c.in_ok-lowest.ensures.each in
    let count = rw (c.deref.ensures.value) at c.in_ok-lowest.ensures.count in
    rw (c.deref-2.ensures.value) (lowered_sites c.args.variables.now.choices.items c.in_ok-lowest.lowest.items c.args.opened.now count each c.requires.opened)

pub returns-clause-lower_bits : goal.returns-clause-lower_bits
returns-clause-lower_bits c =
    let each = rw (c.deref.ensures.value) at c.in_ok-lowest.ensures.each in
    let count = rw (c.deref.ensures.value) at c.in_ok-lowest.ensures.count in
    let listed = lowered_sites c.args.variables.now.choices.items c.in_ok-lowest.lowest.items c.args.opened.now count each c.requires.opened in
    c.in_ok-lower.ensures.count ∙ ap open_count c.deref-2.ensures.value ∙ sym (opened_count c.in_ok-lowest.lowest.items c.args.opened.now listed)
    ∙ opened_count c.args.variables.now.choices.items c.args.opened.now c.requires.opened

pub returns-clause-between : goal.returns-clause-between
returns-clause-between c = λ m move told zeros.
    let each = rw (c.deref.ensures.value) at c.in_ok-lowest.ensures.each in
    two_bounds m move (labelling c.args.form.now.at.now) c.args.variables.now.choices.items c.in_ok-lowest.lowest.items c.in_ok-lower.lower.items c.in_ok-upper.upper.items
    told.instance told.allowed (told.sites_are ∙ sym c.requires.over.sites ∙ sym c.requires.sites) each
    (rw (c.deref-2.ensures.value) at (c.in_ok-lower.ensures.least m move told told.instance))
    (rw (c.deref-3.ensures.value) at c.in_ok-upper.ensures.zeros m move told told.instance zeros)
