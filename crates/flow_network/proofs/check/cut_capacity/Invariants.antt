use Rattle.std.proofs.Common.{◌≡◌, ◌+◌, sum_by, slice_index_or, false, take}
use Rattle.sums.specs.Sums.{count_if}
use Rattle.flow_network.specs.Cut.{enters}
use Rattle.flow_network.proofs.check.cut_capacity.Given as goal

abbrev pub invariant-loop-arc : goal.invariant-loop-arc
invariant-loop-arc l = l.total ≡ l.initial.total + sum_by (λ arc. count_if (enters (λ v. slice_index_or l.side v false) arc) arc.capacity) (take l.arc-index l.arc-items)
