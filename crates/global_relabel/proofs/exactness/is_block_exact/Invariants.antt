use Rattle.std.proofs.Common.{ℕ, ◌+◌, ◌<◌}
use Rattle.block_net.specs.Whole.{state_shown}
use Rattle.block_split.specs.Split.{whole_of}
use Rattle.global_relabel.specs.Local.{IsLocallyExact}
use Rattle.global_relabel.proofs.exactness.is_block_exact.Given as goal

abbrev pub invariant-nodes : goal.invariant-nodes
invariant-nodes l =
    (q : ℕ) → q < l.place → IsLocallyExact (state_shown (whole_of l.split.net.now l.split.parts.now)) l.labels (l.first + q)
