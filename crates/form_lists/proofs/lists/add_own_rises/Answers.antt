use Rattle.std.proofs.Common.{◌≡◌, ◌≤◌, ◌<◌, ◌∙◌, ℕ, ℤ, pos, length, slice_index_or, slice_set, unsigned_abs, to_z, of_z, w32, refl, sym, subst, inl, inr, arith}
use Rattle.std.proofs.lemmas.Bool.{cases_eq}
use Rattle.std.proofs.lemmas.List.{get_or-set_same, get_or-set_other, length-set}
use Rattle.std.proofs.lemmas.List.Elements.{All-get_or}
use Rattle.site_forms.specs.Fields.{own_at}
use Rattle.form_lists.proofs.Near.{read_one}
use Rattle.site_forms.proofs.Sums.{small_passed}
use Rattle.form_lists.proofs.lists.add_own_rises.Goals as goal

pub loop-place-preserved : goal.loop-place-preserved
loop-place-preserved g c =
    let a = c.args in
    let i = c.loop-place.invariant in
    let own = c.loop-place.own in
    let place = c.loop-place.place in
    let sites = a.sites.now in
    let site = slice_index_or sites place 0 in
    let value = to_z w32 (of_z w32 c.own_rise.result) in
    let pass = small_passed c.own_rise.result c.own_rise.ensures.range in
    let below : place < length sites = c.loop-place-test.true in
    let inside : site < length own = (let l = All-get_or (λ p. p < length a.at.now) sites place 0 below c.requires.inside in omega (arith, l, i.count)) in
    let here : own_at (slice_set own site value) site ≡ value = get_or-set_same own site value (pos 0) inside in
    let Small : ℤ → Type 0 = λ z. unsigned_abs z ≤ 10000000 in
    record {
      count = length-set own site value ∙ i.count;
      small = λ u. elim (cases_eq u site) [
        | inl same ↦ (let U : ℕ → Type 0 = λ v. Small (own_at (slice_set own site value) v) in subst U (sym same) (subst Small (sym (here ∙ pass)) c.own_rise.ensures.range))
        | inr other ↦ subst Small (sym (get_or-set_other own site u value (pos 0) other)) (i.small u)
      ];
      others = λ u off. get_or-set_other own site u value (pos 0) (λ same. off place below (sym same)) ∙ i.others u off;
      rises = λ m meant was. read_one m a.change a.at.now own (slice_set own site value) sites place site below refl
          (here ∙ (pass ∙ c.own_rise.ensures.rise m meant)) (λ u other. get_or-set_other own site u value (pos 0) other) (i.rises m meant was);
    }
