use Rattle.std.proofs.Common.{◌≡◌, ◌<◌, ℕ, slice_index}
use Rattle.flow_network.specs.Progress.{top}
use Rattle.plain_cut.proofs.solver.is_maximum.Given as goal

abbrev pub invariant-nodes : goal.invariant-nodes
invariant-nodes l =
    (i : ℕ) → i < l.place → slice_index l.work.labels.items (slice_index l.found i) < top l.net → slice_index l.work.excess.items (slice_index l.found i) ≡ 0
