use Rattle.std.proofs.Common.{ℕ, ◌<◌}
use Rattle.block_events.specs.Directions.{forward, backward}
use Rattle.net_in_blocks.specs.Raising.{IsStableAlong}
use Rattle.net_in_blocks.proofs.Lowering.{IsPass}
use Rattle.net_in_blocks.proofs.blocks.Blocks.lower_arcs.Given as goal

abbrev pub invariant-arcs : goal.invariant-arcs
invariant-arcs l = IsPass l.initial.self l.self l.lowered ((k : ℕ) → k < l.arc → IsStableAlong l.initial.self (forward k) × IsStableAlong l.initial.self (backward k))
