use Rattle.std.proofs.Common.{◌≡◌, ◌∙◌, pos, length, ap, sym, refl, arith}
use Rattle.std.proofs.lemmas.Int.{ints}
use Rattle.sums.specs.Sums.{sum_below}
use Rattle.label_energies.specs.Energies.{labelling}
use Rattle.cost_store.proofs.Totals.{sum_next, end_is, small_total}
use Rattle.cost_store.proofs.problem.Problem.data_energy.Goals as goal

pub loop-site-init : goal.loop-site-init
loop-site-init g c = record { small = omega arith; so_far = λ m meant. refl }

pub loop-site-preserved : goal.loop-site-preserved
loop-site-preserved g c = record {
  small = omega (arith, c.loop-site.invariant.small, c.site_energy-total.ensures.range);
  so_far = λ m meant.
      sum_next c.loop-site.site (λ p. m.data_cost p (labelling c.args.labelling.now.at p)) c.loop-site.total c.site_energy-total.result (c.loop-site.invariant.so_far m meant)
      (c.site_energy-total.ensures.cost m meant
      ∙ ap (λ f. m.data_cost c.loop-site.site (labelling f c.loop-site.site)) c.as_slice-at.ensures.value);
}

pub returns : goal.returns
returns g c =
    let same = small_total c.loop-site.total c.loop-site.site c.loop-site.invariant.small (omega (arith, c.loop-site.auto.site-end, c.sites-site-end.ensures.sizes.0)) in
    record {
      energy = λ m meant.
          let end : c.loop-site.site ≡ m.sites = end_is c.loop-site.site c.sites-site-end.result (length c.args.labelling.now.at) m.sites c.loop-site.auto.site-end c.loop-site-test.false
          c.sites-site-end.ensures.value (c.requires.fits.sites ∙ sym meant.sites_are) in
          same ∙ ap pos (c.loop-site.invariant.so_far m meant ∙ ap (λ n. sum_below n (λ p. m.data_cost p (labelling c.args.labelling.now.at p))) end);
      range = (
        omega (arith, ints, same),
        omega (arith, ints, same, c.loop-site.invariant.small, c.loop-site.auto.site-end, c.sites-site-end.ensures.sizes.0),
      );
    }
