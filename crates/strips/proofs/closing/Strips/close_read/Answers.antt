use Rattle.std.proofs.Common.{◌≡◌, ◌∙◌, ℕ, List, length, sym, subst}
use Rattle.label_energies.specs.Energies.{labelling}
use Rattle.move_energy.specs.declared.choice.Choice.{Choice}
use Rattle.move_energy.proofs.Opened.{opened_within}
use Rattle.strip_nets.specs.Sides.{AreBounds}
use Rattle.strip_nets.specs.Views.{strip_view}
use Rattle.strips.proofs.Ranges.{on_ok, told_keeps, told_right, told_ends}
use Rattle.strip_nets.proofs.Views.{view_length}
use Rattle.strips.proofs.closing.Strips.close_read.Goals as goal

pub tell-requires-clause-sites : goal.tell-requires-clause-sites
tell-requires-clause-sites c =
    let a = c.args in
    opened_within (strip_view a.known.now.items a.from a.to) a.self.now.opened.items (length a.known.now.items) c.requires.opened (view_length a.known.now.items a.from a.to)

pub returns-clause-goes_on : goal.returns-clause-goes_on
returns-clause-goes_on c = λ start on.
    let a = c.args in
    let sides = c.in_ok-sides.sides in
    told_keeps start a.known.now.items c.tell.new.known.items a.from a.to a.self.now.opened.items sides.lower.items sides.upper.items
    record { count = c.tell.ensures.count; each = c.tell.ensures.told } c.requires.opened on

pub returns-clause-agree : goal.returns-clause-agree
returns-clause-agree c = λ m move told is agree.
    let a = c.args in
    let f = labelling a.form.now.at.now in
    let K : List Choice → Type 0 = λ ks. AreBounds m move f ks c.deref-2.result.now c.in_ok-sides.sides in
    let B : List ℕ → Type 0 = λ xs. AreBounds m move f a.known.now.items xs c.in_ok-sides.sides in
    let size : length a.known.now.items ≡ m.sites = c.requires.count ∙ c.requires.over.sites ∙ sym told.sites_are in
    let tells = subst B c.deref-2.ensures.value (subst K c.deref.ensures.value (c.in_ok-sides.ensures.tells m move told is)) in
    on_ok c.tell.result _ (told_right m move f a.known.now.items c.tell.new.known.items a.self.now.opened.items c.in_ok-sides.sides is told.allowed size c.tell.ensures.told tells agree)

pub returns-clause-ends : goal.returns-clause-ends
returns-clause-ends c = λ m move told is agree.
    let a = c.args in
    let f = labelling a.form.now.at.now in
    let K : List Choice → Type 0 = λ ks. AreBounds m move f ks c.deref-2.result.now c.in_ok-sides.sides in
    let B : List ℕ → Type 0 = λ xs. AreBounds m move f a.known.now.items xs c.in_ok-sides.sides in
    let tells = subst B c.deref-2.ensures.value (subst K c.deref.ensures.value (c.in_ok-sides.ensures.tells m move told is)) in
    on_ok c.tell.result _ (told_ends m move f a.known.now.items c.tell.new.known.items a.from a.to a.self.now.opened.items c.in_ok-sides.sides c.tell.ensures.count c.requires.opened c.tell.ensures.told tells agree)
