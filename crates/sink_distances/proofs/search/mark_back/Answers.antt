use Rattle.std.proofs.Common.{◌≡◌, ◌<◌, arith}
use Rattle.sink_distances.specs.Laid.{standing_at, standing_opposite}
use Rattle.sink_distances.specs.Search.{found_of}
use Rattle.sink_distances.proofs.Seeing.{grows_for}
use Rattle.sink_distances.proofs.search.mark_back.Goals as goal

pub returns-clause-grows : goal.returns-clause-grows
returns-clause-grows c =
    let a = c.args in
    grows_for a.label (λ v. v ≡ (standing_at a.cells.now a.p).head)
    (λ v. (v ≡ (standing_at a.cells.now a.p).head) × (0 < (standing_opposite a.cells.now a.p).residual))
    (found_of a.labels.now a.order.now a.tally.count) (found_of c.put.new.labels c.put.new.order c.put.result)
    (λ v e. (e, omega arith)) c.put.ensures.grows
