use Rattle.std.proofs.Common.{◌∙◌, refl}
use Rattle.graph_cuts.specs.UnderWay.{IsRunFrom}
use Rattle.example_steps.proofs.make_moves.Goals.{else-loop-made-test, then-loop-made-test+in_ok-step+in_default}
use Rattle.example_steps.proofs.make_moves.Goals as goal

pub loop-made-init : goal.loop-made-init
loop-made-init g c = record {
  run = c.begin-run.ensures.run;
  sizes = record { labels = refl; sites = refl };
}

pub loop-made-preserved : goal.loop-made-preserved
loop-made-preserved g c =
    let run = c.loop-made.invariant.run in record {
      run = (c.step.ensures.chain _ _ _ run).goes_on;
      sizes = record {
        labels = c.step.ensures.sizes.labels ∙ c.loop-made.invariant.sizes.labels;
        sites = c.step.ensures.sizes.sites ∙ c.loop-made.invariant.sizes.sites;
      };
    }

pub returns-clause-come : goal.returns-clause-come
returns-clause-come g c = λ m meant.
    let left : IsRunFrom g.F.Fn g.V.Fn c.args.problem.now c.args.moves 10 c.args.labelling.now.at c.loop-made-test.labelling c.loop-made-test.run = elim c.loop-made-test.branch [
      | else-loop-made-test w ↦ rw (w.labelling-is, w.run-is) c.loop-made.invariant.run
      | then-loop-made-test+in_ok-step+in_default w ↦ rw (w.labelling-is, w.run-is) (w.step.ensures.chain _ _ _ c.loop-made.invariant.run).goes_on
    ] in
    rw (c.cycles.ensures, c.outcome.ensures) (left.come m meant)
