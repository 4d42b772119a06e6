use Rattle.std.proofs.Common.{◌+◌, ◌-◌, ◌∙◌, sym, slice_index, arith}
use Rattle.std.proofs.lemmas.List.FromFn.{map-range_with_len_more}
use Rattle.block_split.proofs.opening.starts_from.Goals as goal

pub loop-node-preserved : goal.loop-node-preserved
loop-node-preserved c =
    let starts = c.args.starts.now in
    let i = c.loop-node.node in
    let more = map-range_with_len_more (λ j. slice_index starts (c.args.first + j) - slice_index starts c.args.first) 0 i i (omega arith) in
    record {
      made = c.push_reserved.ensures.items ∙ rw c.loop-node.invariant.made (sym more);
      len = omega arith;
      room = c.push_reserved.ensures.capacity ∙ c.loop-node.invariant.room;
    }
