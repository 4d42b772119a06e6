use Rattle.std.proofs.Common.{ℕ, ◌+◌, ◌<◌, ◌≤◌, slice_index}
use Rattle.sink_distances.specs.Search.{found_of, Grows}
use Rattle.block_net.specs.Views.{room_in}
use Rattle.global_relabel.specs.Search.{GivesIn}
use Rattle.global_relabel.proofs.search.mark_block.Given as goal

abbrev pub invariant-places : goal.invariant-places
invariant-places l =
    Grows 1 (GivesIn l.cells l.first) (found_of l.fn.labels l.fn.order l.fn.count) (found_of l.labels l.order l.count)
    × ((q : ℕ) → q < l.p → 0 < room_in l.cells q → slice_index l.labels (l.first + q) ≤ 1)
