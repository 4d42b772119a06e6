use Rattle.std.proofs.Common.{ℕ, List, length, slice_index, ◌∙◌, ap, arith}
use Rattle.flow_network.specs.Cut.{nodes}
use Rattle.block_events.specs.States.{block_of}
use Rattle.block_net.proofs.Tables.{length_table, table_at}
use Rattle.block_split.proofs.Numbers.{node_block_below}
use Rattle.block_split.proofs.net_to_split.node_block_of.Goals as goal

pub bounds-node_blocks-node : goal.bounds-node_blocks-node
bounds-node_blocks-node c =
    omega (arith, c.requires.node, ap (length {A = ℕ}) c.requires.node_blocks, length_table (nodes c.args.net.now) (block_of c.args.net.now c.args.blocks))

pub returns-clause-value : goal.returns-clause-value
returns-clause-value c =
    ap (λ (xs : List ℕ). slice_index xs c.args.node) c.requires.node_blocks
    ∙ table_at (nodes c.args.net.now) (block_of c.args.net.now c.args.blocks) c.args.node 0 c.requires.node

pub returns-clause-below : goal.returns-clause-below
returns-clause-below c =
    omega (
      arith,
      ap (λ (xs : List ℕ). slice_index xs c.args.node) c.requires.node_blocks,
      table_at (nodes c.args.net.now) (block_of c.args.net.now c.args.blocks) c.args.node 0 c.requires.node,
      node_block_below (nodes c.args.net.now) c.args.blocks c.args.node c.requires.some c.requires.node,
    )
