use Rattle.std.proofs.Common.{◌≡◌, ◌<◌, ◌∙◌, ℕ, true, false, List, length, Bool, sym, ap, subst, inl, inr, arith}
use Rattle.std.specs.Prelude.{slice_index_or}
use Rattle.std.proofs.lemmas.Bool.{cases_eq}
use Rattle.std.proofs.lemmas.List.{get_or-set_other, with_items_is}
use Rattle.site_forms.specs.Fields.{AreSymmetric}
use Rattle.form_lists.specs.Lists.{HasCostOf, AreCostsSmall}
use Rattle.form_lists.proofs.smooth_costs.AskedCosts.ask_new.Goals as goal

pub returns-clause-known : goal.returns-clause-known
returns-clause-known g c =
    let a = c.args in
    let e = c.ask_beside-mirrored.ensures in
    let new = c.ask_beside-mirrored.new.costs in
    let before = c.requires.known in
    let S : List ℕ → Type 0 = λ xs. AreCostsSmall xs in
    let M : List ℕ → Type 0 = λ xs. AreSymmetric xs in
    let at_first = c.as_mut_slice.ensures.value in
    let long : length new ≡ length a.self.now.costs.items = c.ask_beside-mirrored.auto.costs ∙ ap (λ (xs : List ℕ). length xs) at_first in
    let is = with_items_is a.self.now.costs new (long ∙ sym a.self.now.costs.ok.0) in
    record {
      small = subst S (sym is) (e.small (subst S (sym at_first) before.small));
      mirrored = λ yes. (let two = c.both-self.ensures yes in subst M (sym is) (e.symmetric two.1 (subst M (sym at_first) (before.mirrored two.0))));
      costs = λ m meant one other l h asked_one asked_other.
          let few : other < 256 = (let k = meant.labels_are in omega (arith, h, k, c.requires.few)) in
          let marked = λ (k : ℕ) (yes : slice_index_or c.deref.result.now k false ≡ true). yes in
          let here = λ (k : ℕ). ap (λ (xs : List Bool). slice_index_or xs k false) c.deref.ensures.value in
          let N : List ℕ → Type 0 = λ xs. HasCostOf m xs one other in
          subst N (sym is) (elim (cases_eq one a.label) [
            | inl same ↦
                let P : ℕ → Type 0 = λ k. HasCostOf m new k other in
                subst P (sym same) (e.beside m meant other h (marked other (here other ∙ asked_other))).0
            | inr off ↦ elim (cases_eq other a.label) [
              | inl same ↦
                  let P : ℕ → Type 0 = λ k. HasCostOf m new one k in
                  subst P (sym same) (e.beside m meant one l (marked one (here one ∙ asked_one))).1
              | inr apart ↦
                  let K : List ℕ → Type 0 = λ xs. HasCostOf m xs one other in
                  let old = λ (k : ℕ) (other_one : _). get_or-set_other a.self.now.labels.items a.label k true false other_one in
                  e.kept m meant one other few (subst K (sym at_first) (before.costs m meant one other l h (sym (old one off) ∙ asked_one) (sym (old other apart) ∙ asked_other)))
            ]
          ]);
    }
