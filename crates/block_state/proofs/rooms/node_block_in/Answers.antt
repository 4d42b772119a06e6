use Rattle.std.proofs.Common.{◌≡◌, ◌∙◌, ◌<◌, ℕ, List, length, slice_index, ap, sym, subst, arith}
use Rattle.flow_network.specs.Cut.{nodes}
use Rattle.block_events.specs.States.{block_of}
use Rattle.block_events.proofs.Ends.{block_in}
use Rattle.block_net.proofs.Tables.{length_table, table_at}
use Rattle.block_state.proofs.rooms.node_block_in.Goals as goal

pub bounds-node_blocks-v : goal.bounds-node_blocks-v
bounds-node_blocks-v c =
    let net = c.args.blocks.now.net in
    omega (arith, c.requires.node, ap (length {A = ℕ}) c.requires.node_blocks, length_table (nodes net) (block_of net c.args.blocks.now.blocks))

pub returns-clause-value : goal.returns-clause-value
returns-clause-value c =
    let net = c.args.blocks.now.net in
    ap (λ (xs : List ℕ). slice_index xs c.args.v) c.requires.node_blocks ∙ table_at (nodes net) (block_of net c.args.blocks.now.blocks) c.args.v 0 c.requires.node

pub returns-clause-block : goal.returns-clause-block
returns-clause-block c =
    let net = c.args.blocks.now.net in
    let value : slice_index c.args.node_blocks.now c.args.v ≡ block_of net c.args.blocks.now.blocks c.args.v =
    ap (λ (xs : List ℕ). slice_index xs c.args.v) c.requires.node_blocks ∙ table_at (nodes net) (block_of net c.args.blocks.now.blocks) c.args.v 0 c.requires.node in
    subst (λ (h : ℕ). h < c.args.blocks.now.blocks) (sym value) (block_in net c.args.blocks.now.blocks c.args.v c.requires.node c.requires.some)
