use Rattle.std.proofs.Common.{◌≡◌, ℕ, ◌<◌}
use Rattle.block_net.specs.Views.{label_in}
use Rattle.cut_in_blocks.proofs.opening.is_flat.Given as goal

abbrev pub invariant-nodes : goal.invariant-nodes
invariant-nodes l = (u : ℕ) → u < l.v → label_in l.cells u ≡ 0
