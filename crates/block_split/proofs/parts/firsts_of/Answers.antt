use Rattle.std.proofs.Common.{◌≡◌, ◌∙◌, sym, ap, arith}
use Rattle.std.proofs.lemmas.List.FromFn.{map-range_with_len_more}
use Rattle.flow_network.specs.Cut.{nodes}
use Rattle.block_split.specs.Split.{first_node}
use Rattle.block_split.proofs.parts.firsts_of.Goals as goal

pub loop-block-preserved : goal.loop-block-preserved
loop-block-preserved c =
    let n = nodes c.args.net.now in
    let b = c.loop-block.block in
    let first : c.first_of.result ≡ first_node n c.args.blocks b = c.first_of.ensures.value ∙ ap (λ k. first_node k c.args.blocks b) c.nodes-nodes.ensures.value in
    let more = map-range_with_len_more (first_node n c.args.blocks) 0 b b (omega arith) in
    record {
      made = c.push_reserved.ensures.items ∙ rw (c.loop-block.invariant.made, first) (sym more);
      len = omega arith;
      room = c.push_reserved.ensures.capacity ∙ c.loop-block.invariant.room;
    }
