use Rattle.std.proofs.Common.{ℕ, ◌<◌, slice_index}
use Rattle.block_net.specs.Whole.{block_at}
use Rattle.block_split.specs.Split.{whole_of}
use Rattle.global_relabel.specs.Rest.{IsAtRest}
use Rattle.global_relabel.proofs.rest_test.is_at_rest.Given as goal

abbrev pub invariant-each : goal.invariant-each
invariant-each l = (b : ℕ) → b < l.b → IsAtRest (block_at (whole_of l.state.net l.parts) b) (slice_index l.parts.firsts.items b) l.labels
