use Rattle.sink_distances.specs.Search.{found_of}
use Rattle.sink_distances.proofs.Seeing.{IsSeen}
use Rattle.sink_distances.proofs.search.mark_row.Given as goal

abbrev pub invariant-row : goal.invariant-row
invariant-row l =
    IsSeen l.net l.rows l.w l.label l.p (found_of l.fn.labels l.fn.order l.fn.tally.count) (found_of l.labels l.order l.tally.count)
