use Rattle.std.proofs.Common.{◌≡◌, ℕ, ◌+◌, ◌<◌, ◌≤◌, length, slice_index}
use Rattle.global_relabel.proofs.node_blocks.write_block.Given as goal

abbrev pub invariant-nodes : goal.invariant-nodes
invariant-nodes l =
    (length l.node_blocks ≡ length l.initial.node_blocks)
    × ((v : ℕ) → l.first ≤ v → v < l.first + l.p → slice_index l.node_blocks v ≡ l.block)
    × ((v : ℕ) → v < l.first → slice_index l.node_blocks v ≡ slice_index l.initial.node_blocks v)
    × ((v : ℕ) → l.first + l.p ≤ v → slice_index l.node_blocks v ≡ slice_index l.initial.node_blocks v)
