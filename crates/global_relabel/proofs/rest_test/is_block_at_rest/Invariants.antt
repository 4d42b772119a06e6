use Rattle.std.proofs.Common.{ℕ, ◌+◌, ◌<◌, ◌≤◌, slice_index}
use Rattle.block_net.specs.Views.{excess_in}
use Rattle.global_relabel.proofs.rest_test.is_block_at_rest.Given as goal

abbrev pub invariant-nodes : goal.invariant-nodes
invariant-nodes l = (q : ℕ) → q < l.p → 0 < excess_in l.cells q → l.cells.top ≤ slice_index l.labels (l.first + q)
