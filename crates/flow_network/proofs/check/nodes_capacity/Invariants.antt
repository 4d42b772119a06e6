use Rattle.std.proofs.Common.{◌≡◌, ◌+◌, slice_index, slice_index_or, false, not}
use Rattle.sums.specs.Sums.{sum_below, count_if}
use Rattle.flow_network.proofs.check.nodes_capacity.Given as goal

abbrev pub invariant-loop-v : goal.invariant-loop-v
invariant-loop-v l = l.total ≡ sum_below l.v (λ v. count_if (slice_index_or l.side v false) (slice_index l.sources v)) + sum_below l.v (λ v. count_if (not (slice_index_or l.side v false)) (slice_index l.sinks v))
