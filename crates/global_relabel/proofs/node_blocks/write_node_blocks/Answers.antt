use Rattle.std.proofs.Common.{◌≡◌, ℕ, ◌+◌, ◌<◌, length, slice_index, refl, sym, ap, subst, arith}
use Rattle.std.proofs.lemmas.List.{get_or_read}
use Rattle.flow_network.specs.Cut.{nodes}
use Rattle.block_events.specs.States.{State, block_of}
use Rattle.block_net.specs.Views.{CellsView, count}
use Rattle.block_net.specs.Whole.{block_at}
use Rattle.block_split.specs.Split.{whole_of}
use Rattle.net_in_blocks.specs.Views.{blocks_in}
use Rattle.net_in_blocks.proofs.Steps.{at_read}
use Rattle.global_relabel.proofs.Homing.{number_below, node_blocks_more}
use Rattle.global_relabel.proofs.node_blocks.write_node_blocks.Goals as goal

pub write_block-requires : goal.write_block-requires
write_block-requires c =
    let s = c.args.state.now in
    let p = c.parts-parts.result.now in
    let w = whole_of s.net p in
    let laid = c.parts-parts.ensures.laid in
    let lb : c.each.b < length p.blocks.items = omega (arith, c.each-test.true, c.len-b-end.ensures) in
    let at = at_read w (blocks_in w) c.each.b c.index-in-each.result.now laid refl lb c.index-in-each.ensures in
    let first : c.index.result.now ≡ slice_index p.firsts.items c.each.b =
    get_or_read p.firsts.items c.each.b c.index.result.now (omega (arith, lb, laid.placed.firsts_len)) c.index.ensures 0 in
    let size : c.len.result ≡ count (block_at w c.each.b) = omega (arith, c.len.ensures.value, ap (λ (B : CellsView). count B) at.is) in
    λ q lq. omega (arith, number_below w laid c.each.b lb q (omega (arith, lq, size)), first, c.each.invariant.0)

pub each-preserved : goal.each-preserved
each-preserved c =
    let s = c.args.state.now in
    let p = c.parts-parts.result.now in
    let w = whole_of s.net p in
    let laid = c.parts-parts.ensures.laid in
    let lb : c.each.b < length p.blocks.items = omega (arith, c.each-test.true, c.len-b-end.ensures) in
    let at = at_read w (blocks_in w) c.each.b c.index-in-each.result.now laid refl lb c.index-in-each.ensures in
    let first : c.index.result.now ≡ slice_index p.firsts.items c.each.b =
    get_or_read p.firsts.items c.each.b c.index.result.now (omega (arith, lb, laid.placed.firsts_len)) c.index.ensures 0 in
    let size : c.len.result ≡ count (block_at w c.each.b) = omega (arith, c.len.ensures.value, ap (λ (B : CellsView). count B) at.is) in
    let blocks : length p.blocks.items ≡ s.blocks = ap (λ (t : State). t.blocks) c.parts-parts.ensures.shown in
    let is = c.write_block.ensures in
    let was = subst (λ k. (v : ℕ) → v < nodes s.net → block_of s.net k v < c.each.b → slice_index c.each.node_blocks v ≡ block_of s.net k v) (sym blocks) c.each.invariant.1 in (
      omega (arith, is.len, c.each.invariant.0),
      subst (λ k. (v : ℕ) → v < nodes s.net → block_of s.net k v < c.each.b + 1 → slice_index c.write_block.new.node_blocks v ≡ block_of s.net k v) blocks
          (node_blocks_more w laid c.each.b lb c.each.node_blocks c.write_block.new.node_blocks c.len.result size was
          (λ v low high. is.inside v (omega (arith, low, first)) (omega (arith, high, first)))
          (λ v low. is.below v (omega (arith, low, first)))
          (λ v high. is.above v (omega (arith, high, first)))),
    )
