use Rattle.std.proofs.Common.{ℕ, ◌<◌}
use Rattle.net_in_blocks.specs.Raising.{IsStableAt}
use Rattle.net_in_blocks.proofs.Lowering.{IsPass}
use Rattle.net_in_blocks.proofs.blocks.Blocks.lower_nodes.Given as goal

abbrev pub invariant-nodes : goal.invariant-nodes
invariant-nodes l = IsPass l.initial.self l.self l.lowered ((u : ℕ) → u < l.v → IsStableAt l.initial.self u)
