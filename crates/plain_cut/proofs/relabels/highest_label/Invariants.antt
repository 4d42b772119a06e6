use Rattle.std.proofs.Common.{◌+◌, ◌<◌, ◌≤◌, ℕ, slice_index}
use Rattle.flow_network.specs.Progress.{top}
use Rattle.sink_distances.specs.Rows.{head_at, residual_at, start_at}
use Rattle.plain_cut.proofs.relabels.highest_label.Given as goal

abbrev pub invariant-row : goal.invariant-row
invariant-row l = record {
  rises : slice_index l.work.labels.items l.v < l.least;
  fits : l.least ≤ top l.net;
  row : (q : ℕ) → start_at l.work.rows l.v ≤ q → q < l.p → 0 < residual_at l.work.rows q
      → l.least ≤ slice_index l.work.labels.items (head_at l.work.rows q) + 1;
}
