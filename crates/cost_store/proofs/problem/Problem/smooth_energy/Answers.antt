use Rattle.std.proofs.Common.{◌∙◌, pos, ap, refl, arith}
use Rattle.std.proofs.lemmas.Int.{ints}
use Rattle.label_energies.specs.Energies.{labelling, pair_cost}
use Rattle.cost_store.proofs.Totals.{list_next, list_all, small_pairs}
use Rattle.cost_store.proofs.problem.Problem.smooth_energy.Goals as goal

pub loop-index-init : goal.loop-index-init
loop-index-init g c = record { small = omega arith; so_far = λ m meant. refl }

pub loop-index-preserved : goal.loop-index-preserved
loop-index-preserved g c = record {
  small = omega (arith, c.loop-index.invariant.small, c.pair_energy-total.ensures.range);
  so_far = λ m meant.
      list_next (pair_cost m (labelling c.args.labelling.now.at)) c.args.self.now.pairs.list m.pairs c.loop-index.index c.loop-index.total c.pair_energy-total.result c.get.result
      meant.pairs_are (omega (arith, c.loop-index-test.true, c.len-index-end.ensures.value)) c.get.ensures.value (c.loop-index.invariant.so_far m meant)
      (c.pair_energy-total.ensures.cost m meant
      ∙ ap (λ f. pair_cost m (labelling f) c.get.result) c.as_slice-at.ensures.value);
}

pub returns : goal.returns
returns g c =
    let same = small_pairs c.loop-index.total c.loop-index.index c.loop-index.invariant.small (omega (arith, c.loop-index.auto.index-end, c.len-index-end.ensures.limit)) in
    record {
      energy = λ m meant. same
          ∙ ap pos (list_all (pair_cost m (labelling c.args.labelling.now.at)) c.args.self.now.pairs.list m.pairs c.loop-index.index c.loop-index.total meant.pairs_are
          (omega (arith, c.loop-index-test.false, c.len-index-end.ensures.value)) (c.loop-index.invariant.so_far m meant));
      range = (
        omega (arith, ints, same),
        omega (arith, ints, same, c.loop-index.invariant.small, c.loop-index.auto.index-end, c.len-index-end.ensures.limit),
      );
    }
