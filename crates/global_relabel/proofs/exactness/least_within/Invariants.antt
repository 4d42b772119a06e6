use Rattle.std.specs.Prelude.{false}
use Rattle.block_split.specs.Split.{whole_of}
use Rattle.global_relabel.proofs.Nearby.{IsLeastUpTo}
use Rattle.global_relabel.proofs.exactness.least_within.Given as goal

abbrev pub invariant-lanes : goal.invariant-lanes
invariant-lanes l =
    IsLeastUpTo (whole_of l.split.net.now l.split.parts.now) false l.labels l.fn.at.node l.fn.least l.least l.j
