use Rattle.std.proofs.Common.{◌∙◌, ℕ, length, ap, arith}
use Rattle.flow_network.specs.Cut.{nodes}
use Rattle.block_events.specs.Directions.{near}
use Rattle.block_events.specs.States.{block_of}
use Rattle.block_net.proofs.Tables.{length_table}
use Rattle.block_split.specs.Split.{first_node}
use Rattle.block_split.proofs.Numbers.{node_block_below, first_within}
use Rattle.block_split.proofs.Opened.{first_read}
use Rattle.block_split.proofs.slots.near_first.Goals as goal

pub bounds-split-node_block : goal.bounds-split-node_block
bounds-split-node_block c =
    let split = c.args.split.now in
    omega (arith, c.node_block_of-node_block.ensures.below, ap (length {A = ℕ}) c.requires.numbers.firsts_are, length_table split.blocks (first_node (nodes split.net.now) split.blocks))

pub returns-clause-value : goal.returns-clause-value
returns-clause-value c =
    let split = c.args.split.now in
    let net = split.net.now in
    first_read net split.blocks (near net c.args.direction) c.node_block_of-node_block.result split.firsts.now c.requires.numbers.firsts_are
    (c.node_block_of-node_block.ensures.value ∙ ap (block_of net split.blocks) c.near-node.ensures.value) c.node_block_of-node_block.ensures.below

pub returns-clause-within : goal.returns-clause-within
returns-clause-within c =
    let split = c.args.split.now in
    let net = split.net.now in
    let v = near net c.args.direction in
    let some = c.requires.numbers.can_split.some in
    let is = first_read net split.blocks v c.node_block_of-node_block.result split.firsts.now c.requires.numbers.firsts_are
    (c.node_block_of-node_block.ensures.value ∙ ap (block_of net split.blocks) c.near-node.ensures.value) c.node_block_of-node_block.ensures.below in
    let node_block = node_block_below (nodes net) split.blocks v some (omega (arith, c.near-node.ensures.value, c.near-node.ensures.below)) in
    omega (arith, is, first_within (nodes net) split.blocks (block_of net split.blocks v) some (omega (arith, node_block)))
