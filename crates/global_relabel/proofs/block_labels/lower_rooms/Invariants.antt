use Rattle.std.specs.Prelude.{ℕ, ◌<◌, ◌≤◌, replicate, slice_index}
use Rattle.block_net.specs.Views.{count, room_in}
use Rattle.sink_distances.specs.Search.{found_of}
use Rattle.global_relabel.specs.Lowering.{FallsTo}
use Rattle.global_relabel.proofs.block_labels.lower_rooms.Given as goal

abbrev pub invariant-nodes : goal.invariant-nodes
invariant-nodes l = record {
  falls : FallsTo 1 (λ p. 0 < room_in l.cells p) (found_of (replicate (count l.cells) l.cells.top) l.fn.queue 0) (found_of l.labels l.queue l.end);
  sink : (p : ℕ) → p < l.place → 0 < room_in l.cells p → slice_index l.labels p ≤ 1;
}
