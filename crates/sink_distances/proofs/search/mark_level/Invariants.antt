use Rattle.sink_distances.specs.Search.{found_of}
use Rattle.sink_distances.proofs.Levels.{IsExpanded}
use Rattle.sink_distances.proofs.search.mark_level.Given as goal

abbrev pub invariant-nodes : goal.invariant-nodes
invariant-nodes l =
    IsExpanded l.net l.rows l.label l.first l.place (found_of l.fn.labels l.fn.order l.fn.tally.count) (found_of l.labels l.order l.tally.count)
