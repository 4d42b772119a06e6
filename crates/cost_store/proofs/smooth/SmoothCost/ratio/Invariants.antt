use Rattle.std.proofs.Common.{ℕ, ◌≤◌}
use Rattle.cost_store.specs.Promises.{AnswersTable}
use Rattle.cost_store.specs.Ratios.{IsRatioSoFar}
use Rattle.cost_store.proofs.smooth.SmoothCost.ratio.Given as goal

abbrev pub invariant-loop-first : goal.invariant-loop-first
invariant-loop-first g l = record {
  ordered : l.now.least ≤ l.now.greatest;
  ratio : (cost : ℕ → ℕ → ℕ) → AnswersTable (goal.V-post g l.self.v) cost l.self.labels l.self.labels → IsRatioSoFar l.self.labels cost l.first 0 l.now;
}
