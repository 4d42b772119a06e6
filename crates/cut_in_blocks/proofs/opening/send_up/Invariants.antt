use Rattle.std.proofs.Common.{◌≡◌, ◌+◌, ◌≤◌, length}
use Rattle.block_net.specs.Views.{first_lane}
use Rattle.cut_in_blocks.specs.Opening.{Opens}
use Rattle.cut_in_blocks.proofs.opening.send_up.Given as goal

abbrev pub invariant-lanes : goal.invariant-lanes
invariant-lanes l =
    Opens l.fn.cells l.cells × (l.first ≡ first_lane l.fn.cells l.v) × (l.end ≡ first_lane l.fn.cells (l.v + 1)) × (l.end ≤ length l.fn.cells.lanes)
