use Rattle.std.proofs.Common.{◌∙◌, List, refl, sym, subst, length}
use Rattle.move_energy.proofs.Places.{meant_pairs, meant_beside}
use Rattle.move_energy.specs.declared.rises.EndRises.{EndRises}
use Rattle.site_forms.specs.Fields.{AreReadableLists, AreReadOf, AreListedRises, AreCostsRead, AreRisesRead, AreUniform, AreScaled, AreExpanding}
use Rattle.form_lists.proofs.PairPlaces.{pairs_places, light_places}
use Rattle.form_lists.proofs.lists.FormLists.form.Goals as goal

pub invariant_of-result : goal.invariant_of-result
invariant_of-result c =
    let a = c.args in
    let R : List EndRises → Type 0 = λ rises. AreListedRises a.ends.now rises in
    record {
      form = record {
        places = pairs_places a.pairs.now a.ends.now (length a.at.now) c.requires.sites c.keeps.ensures c.requires.by_site;
        numbers = subst (λ (X : Type 0). X)
            (λ i. AreReadableLists (sym c.deref.ensures.value i) a.at.now (sym c.deref-2.ensures.value i) (sym c.deref-3.ensures.value i) (sym c.deref-4.ensures.value i) a.self.now.smooth.symmetric a.self.now.few (sym c.deref-5.ensures.value i))
            c.requires.lists.numbers;
        light = λ no. light_places a.pairs.now a.ends.now (length a.at.now) c.requires.sites c.keeps.ensures c.requires.by_site (sym c.requires.lists.kind ∙ no);
        by_place = λ yes. subst R (sym c.deref-7.ensures.value) (c.requires.lists.by_place yes);
        by_known = λ yes. subst (λ (X : Type 0). X)
            (λ i. AreUniform a.ends.now a.at.now (sym c.deref-2.ensures.value i) (sym c.deref-3.ensures.value i) (sym c.deref-4.ensures.value i) a.self.now.smooth.symmetric a.self.now.few a.self.now.listed (sym c.deref-6.ensures.value i))
            (c.requires.lists.by_known yes);
        by_unit = λ yes. subst (λ (X : Type 0). X)
            (λ i. AreScaled a.ends.now a.at.now (sym c.deref-2.ensures.value i) (sym c.deref-3.ensures.value i) (sym c.deref-4.ensures.value i) a.self.now.smooth.symmetric a.self.now.few a.self.now.listed (sym c.deref-6.ensures.value i))
            (c.requires.lists.by_unit yes);
        by_label = λ yes. subst (λ (X : Type 0). X)
            (λ i. AreExpanding a.ends.now a.at.now (sym c.deref-2.ensures.value i) (sym c.deref-3.ensures.value i) a.self.now.smooth.symmetric a.self.now.few a.self.now.listed a.self.now.alpha)
            (c.requires.lists.by_label yes);
      };
      flags = record { rising_is = refl; even_is = refl; weight_is = refl };
    }

pub returns-clause-of : goal.returns-clause-of
returns-clause-of c = λ m move sites pairs allowed is.
    let a = c.args in
    let C : List _ → Type 0 = λ smooth. AreCostsRead m move a.at.now smooth in
    let R : List EndRises → Type 0 = λ rises. AreRisesRead m move a.ends.now a.at.now rises in
    let read : AreReadOf m move a.self.now.own.rises.items a.at.now a.self.now.stays.items a.self.now.turns.items =
    record { sites = is.pairs.sites; labels = is.pairs.labels; after = is.pairs.after; own_are = is.own_are } in
    record {
      sites_are = sites;
      pairs_are = pairs;
      instance = meant_pairs m a.pairs.now pairs sites c.keeps.ensures;
      by_site = meant_beside m a.pairs.now a.ends.now pairs sites c.requires.by_site;
      allowed = allowed;
      read = subst (λ (X : Type 0). X) (λ i. AreReadOf m move (sym c.deref.ensures.value i) a.at.now (sym c.deref-2.ensures.value i) (sym c.deref-3.ensures.value i)) read;
      costs = λ no. subst C (sym c.deref-4.ensures.value) (is.pairs.costs no);
      rises = λ yes. subst R (sym c.deref-7.ensures.value) (is.pairs.rises yes);
    }
