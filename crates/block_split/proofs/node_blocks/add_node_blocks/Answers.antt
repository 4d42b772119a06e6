use Rattle.std.proofs.Common.{◌≡◌, ◌∙◌, ℕ, List, ◌++◌, ◌∷◌, [], sym, ap, arith}
use Rattle.std.proofs.lemmas.List.FromFn.{map-range_with_len_more}
use Rattle.flow_network.specs.Cut.{nodes}
use Rattle.block_events.specs.States.{block_of}
use Rattle.block_net.specs.Whole.{table}
use Rattle.block_split.proofs.Numbers.{node_block_is}
use Rattle.block_split.proofs.node_blocks.add_node_blocks.Goals as goal

pub loop-node-init : goal.loop-node-init
loop-node-init c = record {
  made = c.requires.made ∙ ap (λ (k : ℕ). table k (block_of c.args.net.now c.args.blocks)) (sym c.bounds-first.ensures.first);
  len = c.requires.len ∙ sym c.bounds-first.ensures.first;
  room = c.requires.room;
}

pub loop-node-preserved : goal.loop-node-preserved
loop-node-preserved c =
    let net = c.args.net.now in
    let f = block_of net c.args.blocks in
    let v = c.loop-node._node in
    let node_block : c.args.block ≡ f v =
    sym (node_block_is (nodes net) c.args.blocks c.args.block v c.requires.split.some (omega (arith, c.loop-node-test.true, c.bounds-first.ensures.within)) (omega (arith, c.bounds-first.ensures.first))
    (omega (arith, c.loop-node-test.true, c.bounds-first.ensures.next))) in
    record {
      made = c.push_reserved.ensures.items ∙ (ap (λ (xs : List ℕ). xs ++ c.args.block ∷ []) c.loop-node.invariant.made
          ∙ (ap (λ (q : ℕ). table v f ++ q ∷ []) node_block ∙ sym (map-range_with_len_more f 0 v v (omega arith))));
      len = omega arith;
      room = c.push_reserved.ensures.capacity ∙ c.loop-node.invariant.room;
    }
