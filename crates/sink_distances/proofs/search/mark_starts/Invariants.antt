use Rattle.sink_distances.specs.Search.{found_of, AreStartsButZeros}
use Rattle.sink_distances.proofs.search.mark_starts.Given as goal

abbrev pub invariant-loop-v : goal.invariant-loop-v
invariant-loop-v l = AreStartsButZeros l.net l.rooms l.initial.labels l.v (found_of l.labels l.order l.count)
