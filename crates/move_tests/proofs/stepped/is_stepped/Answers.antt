use Rattle.std.proofs.Common.{◌∙◌, refl}
use Rattle.move_tests.proofs.stepped.is_stepped.Goals as goal

pub loop-place-init : goal.loop-place-init
loop-place-init g c = record {
  run = (_, _, _, c.begin-run.ensures.run);
  sizes = record { labels = refl; sites = refl };
}

pub loop-place-preserved : goal.loop-place-preserved
loop-place-preserved g c =
    let run = c.loop-place.invariant.run in record {
      run = (run.0, run.1, run.2, (c.step.ensures.chain run.0 run.1 run.2 run.3).goes_on);
      sizes = record {
        labels = c.step.ensures.sizes.labels ∙ c.loop-place.invariant.sizes.labels;
        sites = c.step.ensures.sizes.sites ∙ c.loop-place.invariant.sizes.sites;
      };
    }
