use Rattle.std.proofs.Common.{◌≡◌, ℕ, ◌<◌, slice_index}
use Rattle.block_events.specs.Directions.{backward}
use Rattle.block_events.specs.States.{residual_of}
use Rattle.cut_in_blocks.proofs.flow.write_flow_within.Given as goal

abbrev pub invariant-arcs : goal.invariant-arcs
invariant-arcs l = (k : ℕ) → k < l.arc → slice_index l.arc_flow k ≡ residual_of l.state (backward k)
