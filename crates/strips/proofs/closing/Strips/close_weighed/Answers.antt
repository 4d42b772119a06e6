use Rattle.std.proofs.Common.{◌≡◌, ◌∙◌, ℕ, List, map, length, sym, ap, subst}
use Rattle.label_energies.specs.Energies.{labelling}
use Rattle.move_energy.specs.declared.choice.Choice.{Choice}
use Rattle.move_energy.specs.Choices.{AreOpenSites}
use Rattle.move_energy.specs.Weights.{weight_at}
use Rattle.move_energy.proofs.Opened.{opened_within}
use Rattle.strip_nets.specs.Sides.{AreBounds}
use Rattle.strip_nets.specs.Views.{strip_view}
use Rattle.strips.proofs.Ranges.{on_ok, told_keeps, told_right}
use Rattle.strip_nets.proofs.Views.{view_length}
use Rattle.strips.proofs.Weighing.{listed_count, listed_few, starts_listed}
use Rattle.strips.proofs.closing.Strips.close_weighed.Goals as goal

pub list_weights-requires : goal.list_weights-requires
list_weights-requires c =
    let a = c.args in
    let can = c.requires.can in
    let view = strip_view a.known.now.items 0 a.to in
    let O : List ℕ → Type 0 = λ xs. AreOpenSites view xs in
    record {
      sites = opened_within view c.deref.result.now (length a.basis.now.weights.now) (subst O (sym c.deref.ensures.value) c.requires.opened)
          (view_length a.known.now.items 0 a.to ∙ can.count ∙ sym can.begins.weighed);
    }

pub cut_strip-requires-clause-weighed : goal.cut_strip-requires-clause-weighed
cut_strip-requires-clause-weighed c =
    let a = c.args in
    let can = c.requires.can in
    let view = strip_view a.known.now.items 0 a.to in
    let O : List ℕ → Type 0 = λ xs. AreOpenSites view xs in
    let listed = c.deref-4.ensures.value ∙ c.in_ok-list_weights.ensures ∙ ap (map (weight_at a.basis.now.weights.now)) (c.deref.ensures.value ∙ sym c.deref-3.ensures.value) in
    record {
      count = listed_count c.deref-3.result.now a.basis.now.weights.now c.deref-4.result.now listed;
      size = listed_few a.basis.now.start.now a.known.now.items 0 a.to (length a.form.now.at.now) c.deref-3.result.now a.basis.now.weights.now c.deref-4.result.now listed
          can.count can.goes_on (subst O (sym c.deref-3.ensures.value) c.requires.opened) can.begins.size;
    }

pub tell-requires-clause-sites : goal.tell-requires-clause-sites
tell-requires-clause-sites c =
    let a = c.args in
    opened_within (strip_view a.known.now.items 0 a.to) a.self.now.opened.items (length a.known.now.items) c.requires.opened (view_length a.known.now.items 0 a.to)

pub returns-clause-agree : goal.returns-clause-agree
returns-clause-agree c = λ m move read are agree.
    let a = c.args in
    let can = c.requires.can in
    let f = labelling a.form.now.at.now in
    let K : List Choice → Type 0 = λ ks. AreBounds m move f ks c.deref-3.result.now c.in_ok-sides.sides in
    let B : List ℕ → Type 0 = λ xs. AreBounds m move f a.known.now.items xs c.in_ok-sides.sides in
    let O : List ℕ → Type 0 = λ xs. AreOpenSites (strip_view a.known.now.items 0 a.to) xs in
    let size : length a.known.now.items ≡ m.sites = can.count ∙ can.begins.over.sites ∙ sym read.sites_are in
    let listed = c.deref-4.ensures.value ∙ c.in_ok-list_weights.ensures ∙ ap (map (weight_at a.basis.now.weights.now)) (c.deref.ensures.value ∙ sym c.deref-3.ensures.value) in
    let starts = starts_listed m move f a.basis.now.start.now a.known.now.items 0 a.to c.deref-3.result.now a.basis.now.weights.now c.deref-4.result.now
    size listed (subst O (sym c.deref-3.ensures.value) c.requires.opened) can.goes_on are in
    on_ok c.tell.result _ (told_right m move f a.known.now.items c.tell.new.known.items a.self.now.opened.items c.in_ok-sides.sides read.instance read.allowed size c.tell.ensures.told
    (subst B c.deref-3.ensures.value (subst K c.deref-2.ensures.value (c.in_ok-sides.ensures.tells m move read starts))) agree)

pub returns-clause-can : goal.returns-clause-can
returns-clause-can c =
    let a = c.args in
    let can = c.requires.can in
    let sides = c.in_ok-sides.sides in
    on_ok c.tell.result _ record {
      begins = can.begins;
      count = c.tell.ensures.count ∙ can.count;
      goes_on = told_keeps a.basis.now.start.now a.known.now.items c.tell.new.known.items 0 a.to a.self.now.opened.items sides.lower.items sides.upper.items
          record { count = c.tell.ensures.count; each = c.tell.ensures.told } c.requires.opened can.goes_on;
    }
