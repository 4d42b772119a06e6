use Rattle.std.proofs.Common.{◌≡◌, ◌∙◌, ℕ, List, not, eqb, length, slice_index, sym, ap, arith}
use Rattle.flow_network.specs.Cut.{nodes}
use Rattle.block_events.specs.Directions.{near, far}
use Rattle.block_events.specs.States.{block_of}
use Rattle.block_events.proofs.Ends.{block_in}
use Rattle.block_net.proofs.Tables.{length_table, table_at}
use Rattle.block_split.proofs.ends.leads_out.Goals as goal

pub bounds-node_blocks-tail : goal.bounds-node_blocks-tail
bounds-node_blocks-tail c =
    omega (arith, c.near-tail.ensures.below, ap (length {A = ℕ}) c.requires.node_blocks, length_table (nodes c.args.net.now) (block_of c.args.net.now c.args.blocks))

pub bounds-node_blocks-head : goal.bounds-node_blocks-head
bounds-node_blocks-head c =
    omega (arith, c.far-head.ensures.below, ap (length {A = ℕ}) c.requires.node_blocks, length_table (nodes c.args.net.now) (block_of c.args.net.now c.args.blocks))

pub returns : goal.returns
returns c =
    let net = c.args.net.now in
    let node_block = block_of net c.args.blocks in
    let node_blocks = c.args.node_blocks.now in
    let n = c.near-tail.result in
    let f = c.far-head.result in
    let at_near : slice_index node_blocks n ≡ node_block (near net c.args.direction) =
    ap (λ (xs : List ℕ). slice_index xs n) c.requires.node_blocks ∙ (table_at (nodes net) node_block n 0 c.near-tail.ensures.below ∙ ap node_block c.near-tail.ensures.value) in
    let at_far : slice_index node_blocks f ≡ node_block (far net c.args.direction) =
    ap (λ (xs : List ℕ). slice_index xs f) c.requires.node_blocks ∙ (table_at (nodes net) node_block f 0 c.far-head.ensures.below ∙ ap node_block c.far-head.ensures.value) in
    ap (λ (q : ℕ). not (eqb q (slice_index node_blocks f))) at_near ∙ ap (λ (q : ℕ). not (eqb (node_block (near net c.args.direction)) q)) at_far

pub returns-then-blocks-eq1 : goal.returns-then-blocks-eq1
returns-then-blocks-eq1 c =
    let net = c.args.net.now in
    let x = c.args.direction in
    let near_zero : block_of net 1 (near net x) ≡ 0 = omega (arith, block_in net 1 (near net x) (omega (arith, c.near-tail.ensures.value, c.near-tail.ensures.below)) (omega arith)) in
    let far_zero : block_of net 1 (far net x) ≡ 0 = omega (arith, block_in net 1 (far net x) (omega (arith, c.far-head.ensures.value, c.far-head.ensures.below)) (omega arith)) in
    rw c.if-blocks-eq1.true (sym (ap (λ (q : ℕ). not (eqb q (block_of net 1 (far net x)))) near_zero ∙ ap (λ (q : ℕ). not (eqb 0 q)) far_zero))
