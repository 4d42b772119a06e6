use Rattle.std.proofs.Common.{◌∙◌, sym, arith}
use Rattle.std.proofs.lemmas.List.FromFn.{map-range_with_len_more}
use Rattle.block_split.specs.Split.{block_made}
use Rattle.block_split.specs.Slots.{split_rows}
use Rattle.block_split.proofs.one_by_one.blocks_of.Goals as goal

pub loop-block-preserved : goal.loop-block-preserved
loop-block-preserved c =
    let b = c.loop-block.block in
    let split = c.args.sorted.now.split in
    let more = map-range_with_len_more (block_made split.net.now split.blocks (split_rows split)) 0 b b (omega arith) in
    record {
      list = c.push_reserved.ensures.items ∙ rw (c.loop-block.invariant.list, c.in_ok-make_block.ensures) (sym more);
      len = omega arith;
      room = c.push_reserved.ensures.capacity ∙ c.loop-block.invariant.room;
    }
