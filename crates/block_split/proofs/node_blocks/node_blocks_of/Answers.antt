use Rattle.std.proofs.lemmas.Grind.{common_steps}
use Rattle.std.proofs.Common.{◌≡◌, ◌∙◌, ℕ, sym, ap, arith}
use Rattle.flow_network.specs.Cut.{nodes}
use Rattle.block_events.specs.States.{block_of}
use Rattle.block_net.specs.Whole.{table}
use Rattle.block_split.specs.Split.{first_node}
use Rattle.block_split.proofs.Numbers.{first_zero, first_last}
use Rattle.block_split.proofs.node_blocks.node_blocks_of.Goals as goal

pub loop-block-init : goal.loop-block-init
loop-block-init c =
    let zero' = first_zero (nodes c.args.net.now) c.args.blocks c.requires.some in
    record {
      made = c.in_ok-node_blocks.ensures.items ∙ ap (λ (k : ℕ). table k (block_of c.args.net.now c.args.blocks)) (sym zero');
      len = omega (arith, c.in_ok-node_blocks.ensures.len, zero');
      room = grind (arith, common_steps);
    }

pub returns : goal.returns
returns c =
    let net = c.args.net.now in
    let f = block_of net c.args.blocks in
    let all : c.loop-block.block ≡ c.args.blocks = omega (arith, c.loop-block-test.false, c.loop-block.auto.block-end) in
    c.loop-block.invariant.made ∙ (ap (λ (k : ℕ). table (first_node (nodes net) c.args.blocks k) f) all ∙ ap (λ (k : ℕ). table k f) (first_last (nodes net) c.args.blocks c.requires.some))
