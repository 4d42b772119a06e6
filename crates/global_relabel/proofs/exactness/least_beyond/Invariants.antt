use Rattle.std.specs.Prelude.{true}
use Rattle.block_split.specs.Split.{whole_of}
use Rattle.global_relabel.proofs.Nearby.{IsLeastUpTo}
use Rattle.global_relabel.proofs.exactness.least_beyond.Given as goal

abbrev pub invariant-borders : goal.invariant-borders
invariant-borders l =
    IsLeastUpTo (whole_of l.split.net.now l.split.parts.now) true l.labels l.fn.at.node l.fn.least l.least l.j
