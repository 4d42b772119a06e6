use Rattle.std.proofs.Common.{◌≡◌, ◌∙◌, List, ℤ, sym, ap, subst, [], length}
use Rattle.std.proofs.Math.ListN.{take}
use Rattle.site_forms.specs.Fields.{own_at}
use Rattle.form_lists.specs.Lists.{AreRisesNear, with_costs_at}
use Rattle.form_lists.specs.OwnRises.{AreZeroBut}
use Rattle.form_lists.proofs.Clearing.{written_whole, zeros_after}
use Rattle.form_lists.proofs.lists.FormLists.read_sites.Goals as goal

pub invariant_of-self : goal.invariant_of-self
invariant_of-self g c =
    let old = c.note.new.self in
    let new : List ℤ = c.add_own_rises.new.own in
    let whole = written_whole old.rises.len new _ (sym (c.add_own_rises.auto.own ∙ c.as_mut_slice.ensures.len)) in
    record {
      zeros = λ cleared. subst (λ own. AreZeroBut own old.sites.items) (sym whole)
          (subst (λ own. AreZeroBut new old.sites.items) c.as_mut_slice.ensures.value
          (zeros_after c.as_mut_slice.result.now new old.sites.items c.args.sites.now c.add_own_rises.auto.own (subst (λ own. AreZeroBut own old.sites.items) (sym c.as_mut_slice.ensures.value) (old.zeros cleared)) (c.note.ensures.noted cleared) c.add_own_rises.ensures.others));
    }

pub returns-clause-read : goal.returns-clause-read
returns-clause-read g c = λ m meant ends near.
    let a = c.args in
    let old = c.note.new.self in
    let new : List ℤ = c.add_own_rises.new.own in
    let whole = written_whole old.rises.len new _ (sym (c.add_own_rises.auto.own ∙ c.as_mut_slice.ensures.len)) in
    let was = subst (λ own. AreRisesNear m a.change a.at.now own []) (sym (c.as_mut_slice.ensures.value ∙ ap (λ r. r.items) c.note.ensures.same)) (record { asked = near.asked; covers = near.covers; rises = near.read.own_are }) in
    let is = c.add_own_rises.ensures.rises m meant was in
    let read = near.read.pairs in
    record {
      asked = is.asked;
      covers = is.covers;
      read = record {
        pairs = record { sites = read.sites; labels = read.labels; after = read.after; costs = read.costs; rises = read.rises };
        own_are = λ u l. ap (λ own. own_at own u) whole ∙ is.rises u l;
      };
    }
