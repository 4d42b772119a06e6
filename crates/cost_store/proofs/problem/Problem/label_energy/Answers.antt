use Rattle.std.proofs.Common.{◌≡◌, ◌∙◌, ℕ, List, ℤ, length, pos, w64, sym, ap, subst, arith}
use Rattle.std.proofs.lemmas.Int.{to_z_pos, ints}
use Rattle.sums.specs.Sums.{sum_below, count_if}
use Rattle.label_energies.specs.Energies.{labelling, is_used, label_energy}
use Rattle.cost_store.specs.LabelCosts.{cost_at}
use Rattle.cost_store.specs.LabelCosts.{costs_of, AreLabelCosts}
use Rattle.cost_store.proofs.Totals.{label_total}
use Rattle.cost_store.proofs.problem.Problem.label_energy.Goals as goal

pub returns : goal.returns
returns g c =
    let same = to_z_pos w64 c.total_paid.result (omega (arith, c.total_paid.ensures.range)) in
    record {
      energy = λ m meant.
          let costs = c.args.self.now.label_costs in
          let f = c.args.labelling.now.at in
          let A : ℕ → Type 0 = λ k. AreLabelCosts k costs in
          let are = subst A (sym meant.labels_are) c.requires.posed.label_costs in
          let size : length f ≡ m.sites = c.requires.fits.sites ∙ sym meant.sites_are in
          let T = λ (xs : List ℕ) (cs : List ℤ). sum_below (length cs) (λ label. count_if (is_used (length xs) (labelling xs) label) (cost_at cs label)) in
          let total : c.total_paid.result ≡ label_energy m (labelling f) =
          c.total_paid.ensures.value ∙ (λ j. T (c.as_slice.ensures.value j) (c.costs_of.ensures j))
          ∙ ap (λ (n : ℕ). sum_below (length (costs_of costs)) (λ label. count_if (is_used n (labelling f) label) (cost_at (costs_of costs) label))) size
          ∙ label_total m costs (labelling f) are meant.costs_are in
          same ∙ ap pos total;
      range = (omega (arith, ints, same), omega (arith, ints, same, c.total_paid.ensures.range));
    }
