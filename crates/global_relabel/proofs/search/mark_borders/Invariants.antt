use Rattle.std.specs.Prelude.{true}
use Rattle.sink_distances.specs.Search.{found_of}
use Rattle.block_split.specs.Split.{whole_of}
use Rattle.global_relabel.proofs.Seeing.{IsSeen}
use Rattle.global_relabel.proofs.search.mark_borders.Given as goal

abbrev pub invariant-loop-j : goal.invariant-loop-j
invariant-loop-j l =
    IsSeen (whole_of l.split.net.now l.split.parts.now) true l.fn.at.node l.label l.j (found_of l.fn.labels l.fn.order l.fn.count)
    (found_of l.labels l.order l.count)
