use Rattle.std.proofs.Common.{◌∙◌, length, sym, arith}
use Rattle.label_energies.specs.Energies.{labelling}
use Rattle.move_energy.proofs.Opened.{opened_within, opened_count}
use Rattle.strips.proofs.Weighing.{listed_count, listed_few, starts_listed}
use Rattle.strip_nets.proofs.Looking.{whole_listed}
use Rattle.strips.proofs.closing.Strips.look.Goals as goal

pub list_weights-requires : goal.list_weights-requires
list_weights-requires c =
    let a = c.args in
    let can = c.requires.can in
    record { sites = opened_within a.known.now a.opened.now (length a.basis.now.weights.now) c.requires.opened (can.count ∙ sym can.begins.weighed) }

pub cut_open-requires-clause-count : goal.cut_open-requires-clause-count
cut_open-requires-clause-count c = listed_count c.args.opened.now c.args.basis.now.weights.now c.deref.result.now (c.deref.ensures.value ∙ c.in_ok-list_weights.ensures)

pub cut_open-requires-clause-size : goal.cut_open-requires-clause-size
cut_open-requires-clause-size c =
    let a = c.args in
    let can = c.requires.can in
    listed_few a.basis.now.start.now a.known.now 0 (length a.known.now) (length a.form.now.at.now) a.opened.now a.basis.now.weights.now c.deref.result.now
    (c.deref.ensures.value ∙ c.in_ok-list_weights.ensures) can.count can.goes_on (whole_listed a.known.now a.opened.now (length a.known.now) (omega arith) c.requires.opened) can.begins.size

pub returns-clause-count : goal.returns-clause-count
returns-clause-count c = c.in_ok-bits.ensures.count ∙ opened_count c.args.known.now c.args.opened.now c.requires.opened

pub returns-clause-least : goal.returns-clause-least
returns-clause-least c = λ m move read are.
    let a = c.args in
    let can = c.requires.can in
    let f = labelling a.form.now.at.now in
    let starts = starts_listed m move f a.basis.now.start.now a.known.now 0 (length a.known.now) a.opened.now a.basis.now.weights.now c.deref.result.now
    (can.count ∙ can.begins.over.sites ∙ sym read.sites_are) (c.deref.ensures.value ∙ c.in_ok-list_weights.ensures)
    (whole_listed a.known.now a.opened.now (length a.known.now) (omega arith) c.requires.opened) can.goes_on are in
    c.in_ok-bits.ensures.least m move read starts
