use Rattle.std.proofs.Common.{◌≡◌, ℕ, ◌*◌, ◌<◌, length, slice_index}
use Rattle.sink_distances.specs.Rows.{residual_at, start_at, second_at, AreNexts}
use Rattle.sink_distances.proofs.carried.read_each.Given as goal

abbrev pub invariant-arcs : goal.invariant-arcs
invariant-arcs l = record {
  nexts : AreNexts l.net (start_at l.rows) (2 * l.k) l.nexts;
  len : length l.flow ≡ length l.net.arcs;
  each : (j : ℕ) → j < l.k → slice_index l.flow j ≡ residual_at l.rows (second_at l.rows j);
}
