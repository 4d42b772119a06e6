use Rattle.std.proofs.Common.{◌*◌, ◌≤◌, ◌≤ℤ◌, ℕ, pos, arith}
use Rattle.std.proofs.lemmas.Int.{ints}
use Rattle.cost_store.specs.Metrics.{potts}
use Rattle.cost_store.proofs.Metrics.{potts_metric, potts_ratio}
use Rattle.moves.proofs.bound.potts_run_is_near.Goals as goal

twice : (a b : ℕ) → 1 * a ≤ (2 * 1) * b → pos a ≤ℤ pos (2 * b)
twice a b near = omega (arith, ints, near)

pub returns : goal.returns
returns c = λ m g h weighted free within lh.
    twice _ _ (within (record { vmin = 1; vmax = 1 })
    (record { metric = record { table = potts; weighted = weighted; metric = potts_metric m.labels }; ratio = potts_ratio m.labels; free = free }) h lh)
