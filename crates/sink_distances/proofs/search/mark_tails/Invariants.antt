use Rattle.sink_distances.specs.Search.{found_of}
use Rattle.sink_distances.proofs.Scanning.{AreTailsScanned}
use Rattle.sink_distances.proofs.search.mark_tails.Given as goal

abbrev pub invariant-loop-p : goal.invariant-loop-p
invariant-loop-p l =
    AreTailsScanned l.carried.net.now l.carried.adjacency.now l.carried.arc_flow.now l.w l.label l.p
    (found_of l.fn.labels l.fn.order l.fn.count) (found_of l.labels l.order l.count)
