use Rattle.std.proofs.Common.{◌≡◌, ℕ, subst, arith}
use Rattle.cost_store.specs.Ratios.{IsRatioSoFar}
use Rattle.cost_store.proofs.smooth.SmoothCost.widen_by_row.Goals as goal

pub loop-second-init : goal.loop-second-init
loop-second-init g c = record { ordered = c.requires.ordered; ratio = λ cost answers start. start }

pub widen-now-requires-clause-ordered : goal.widen-now-requires-clause-ordered
widen-now-requires-clause-ordered g c = c.loop-second.invariant.ordered

pub loop-second-preserved : goal.loop-second-preserved
loop-second-preserved g c = record {
  ordered = c.widen-now.ensures.ordered;
  ratio = λ cost answers start. c.widen-now.ensures.ratio cost answers (c.loop-second.invariant.ratio cost answers start);
}

pub returns-clause-ordered : goal.returns-clause-ordered
returns-clause-ordered g c = c.loop-second.invariant.ordered

pub returns-clause-ratio : goal.returns-clause-ratio
returns-clause-ratio g c = λ cost answers start.
    let end : c.loop-second.second ≡ c.args.self.now.labels = omega arith in
    let P : ℕ → Type 0 = λ k. IsRatioSoFar c.args.self.now.labels cost c.args.first k c.loop-second.now in
    subst P end (c.loop-second.invariant.ratio cost answers start)
