use Rattle.std.proofs.Common.{ℕ, ◌<◌, ◌≤◌, slice_index}
use Rattle.flow_network.specs.Cut.{nodes}
use Rattle.sink_distances.specs.Search.{found_of, AreStarts}
use Rattle.block_net.specs.Whole.{node_block}
use Rattle.block_split.specs.Split.{whole_of}
use Rattle.global_relabel.proofs.search.mark_rooms.Given as goal

abbrev pub invariant-each : goal.invariant-each
invariant-each l =
    AreStarts l.state.net l.state.rooms 0 (found_of l.labels l.order l.count)
    × ((v : ℕ) → v < nodes l.state.net → node_block (whole_of l.state.net l.parts) v < l.b → 0 < slice_index l.state.rooms v → slice_index l.labels v ≤ 1)
