use Rattle.std.specs.Prelude.{false}
use Rattle.sink_distances.specs.Search.{found_of}
use Rattle.block_split.specs.Split.{whole_of}
use Rattle.global_relabel.proofs.Seeing.{IsSeen}
use Rattle.global_relabel.proofs.search.mark_lanes.Given as goal

abbrev pub invariant-loop-j : goal.invariant-loop-j
invariant-loop-j l =
    IsSeen (whole_of l.split.net.now l.split.parts.now) false l.fn.at.node l.label l.j (found_of l.fn.labels l.fn.order l.fn.count)
    (found_of l.labels l.order l.count)
