use Rattle.std.proofs.Common.{◌<◌, ◌≤◌, ℕ, slice_index}
use Rattle.sink_distances.proofs.rooms.are_rooms.Given as goal

abbrev pub invariant-nodes : goal.invariant-nodes
invariant-nodes l = (v : ℕ) → v < l.v → slice_index l.rooms v ≤ slice_index l.sinks v
