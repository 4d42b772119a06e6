use Rattle.std.specs.Prelude.{◌-◌, length}
use Rattle.sink_distances.specs.Search.{found_of}
use Rattle.global_relabel.proofs.ResidualNet.{IsExpanded}
use Rattle.global_relabel.proofs.search.write_exact.Given as goal

abbrev pub invariant-search : goal.invariant-search
invariant-search l = IsExpanded l.state l.next (found_of l.labels l.order l.count)

abbrev pub decreases-search : goal.decreases-search
decreases-search l = length l.initial.labels - l.next

abbrev pub invariant-within : goal.invariant-within
invariant-within l = IsExpanded l.state l.next (found_of l.labels l.order l.count)

abbrev pub decreases-within : goal.decreases-within
decreases-within l = length l.initial.labels - l.next
