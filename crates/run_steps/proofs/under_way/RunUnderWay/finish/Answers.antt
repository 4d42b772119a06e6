use Rattle.std.proofs.Common.{◌∙◌, refl}
use Rattle.std.proofs.lemmas.Result.{err_from_is_err_and}
use Rattle.run_steps.proofs.UnderWay.{over_of}
use Rattle.run_steps.proofs.under_way.RunUnderWay.finish.Goals as goal

pub loop-self-init : goal.loop-self-init
loop-self-init g c = record {
  run = λ kind cycles start from. from;
  sizes = record { labels = refl; sites = refl };
}

pub loop-self-preserved : goal.loop-self-preserved
loop-self-preserved g c = record {
  run = λ kind cycles start from. (c.in_ok-advance.ensures.chain kind cycles start (c.loop-self.invariant.run kind cycles start from)).goes_on;
  sizes = record {
    labels = c.in_ok-advance.ensures.sizes.labels ∙ c.loop-self.invariant.sizes.labels;
    sites = c.in_ok-advance.ensures.sizes.sites ∙ c.loop-self.invariant.sizes.sites;
  };
}

pub returns-in-Some-clause-chain : goal.returns-in-Some-clause-chain
returns-in-Some-clause-chain g c = λ kind cycles start from. record {
  goes_on = c.loop-self.invariant.run kind cycles start from;
  cause = λ m meant. tt;
  own = tt;
}

pub advance-requires-clause-over : goal.advance-requires-clause-over
advance-requires-clause-over g c = λ κs lives.
    let run = c.requires.under_way in over_of _ _ _ run.0 run.1 run.2 _ _ (c.loop-self.invariant.run run.0 run.1 run.2 run.3)

pub returns-in_err-advance-clause-chain : goal.returns-in_err-advance-clause-chain
returns-in_err-advance-clause-chain g c = λ kind cycles start from.
    let p = err_from_is_err_and c.from_residual.result c.from_residual.ensures.1 in
    let step = c.in_err-advance.ensures.chain kind cycles start (c.loop-self.invariant.run kind cycles start from) in record {
      goes_on = step.goes_on;
      cause = λ m meant. rw (p.1, p.2) (step.cause m meant);
      own = rw (p.1, p.2) step.own;
    }
