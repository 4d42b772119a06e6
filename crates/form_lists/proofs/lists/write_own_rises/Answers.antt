use Rattle.std.proofs.Common.{◌≡◌, ◌≤◌, ◌<◌, ◌∙◌, ℕ, ℤ, pos, length, unsigned_abs, to_z, of_z, w32, sym, subst, arith}
use Rattle.std.proofs.lemmas.List.{length-set}
use Rattle.label_energies.specs.Energies.{labelling}
use Rattle.move_energy.specs.MoveValues.{data_rise}
use Rattle.form_lists.proofs.Listing.{written}
use Rattle.site_forms.proofs.Sums.{small_passed}
use Rattle.form_lists.proofs.lists.write_own_rises.Goals as goal

pub loop-site-preserved : goal.loop-site-preserved
loop-site-preserved g c =
    let a = c.args in
    let i = c.loop-site.invariant in
    let own = c.loop-site.own in
    let site = c.loop-site.site in
    let value = to_z w32 (of_z w32 c.own_rise.result) in
    let pass = small_passed c.own_rise.result c.own_rise.ensures.range in
    let Small : ℤ → Type 0 = λ z. unsigned_abs z ≤ 10000000 in
    let inside : site < length own = omega (arith, c.loop-site-test.true, i.count) in
    record {
      count = length-set own site value ∙ i.count;
      small = written (λ (u : ℕ) (z : ℤ). Small z) own site value (pos 0) inside i.small (subst Small (sym pass) c.own_rise.ensures.range);
      rises = λ m meant. written (λ (u : ℕ) (z : ℤ). z ≡ data_rise m a.change (labelling a.at.now) u) own site value (pos 0) inside (i.rises m meant) (pass ∙ c.own_rise.ensures.rise m meant);
    }
