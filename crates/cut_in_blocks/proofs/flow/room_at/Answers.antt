use Rattle.std.proofs.Common.{◌≡◌, ◌<◌, ◌∙◌, length, slice_index, refl, sym, ap, subst, arith}
use Rattle.std.proofs.lemmas.List.{get_or_read}
use Rattle.block_events.specs.States.{State, room_of}
use Rattle.net_in_blocks.specs.Views.{blocks_in}
use Rattle.block_split.specs.Split.{whole_of}
use Rattle.net_in_blocks.proofs.Steps.{at_read, room_read}
use Rattle.global_relabel.specs.NodeBlocks.{AreNodeBlocks}
use Rattle.global_relabel.proofs.Homing.{spot_of_node_block}
use Rattle.cut_in_blocks.proofs.flow.room_at.Goals as goal

pub returns : goal.returns
returns c =
    let s = c.args.state.now in
    let p = c.parts-parts.result.now in
    let w = whole_of s.net p in
    let v = c.args.v in
    let b = slice_index c.args.node_blocks.now v in
    let laid = c.parts-parts.ensures.laid in
    let shown = c.parts-parts.ensures.shown in
    let are = subst (λ k. AreNodeBlocks s.net k c.args.node_blocks.now) (sym (ap (λ (t : State). t.blocks) shown)) c.requires.node_blocks in
    let lb : b < length p.blocks.items = omega (arith, are.node_block v c.requires.node, laid.placed.node_blocks v c.requires.node) in
    let first : c.index-2.result.now ≡ slice_index p.firsts.items b =
    get_or_read p.firsts.items b c.index-2.result.now (omega (arith, lb, laid.placed.firsts_len)) c.index-2.ensures 0 in
    let spot = spot_of_node_block w c.args.node_blocks.now v b _ c.index-2.result.now laid are c.requires.node refl first refl in
    let at = at_read w (blocks_in w) b c.index.result.now laid refl lb c.index.ensures in
    c.room.ensures ∙ (room_read w (blocks_in w) b c.index.result.now v _ at spot ∙ ap (λ (t : State). room_of t v) shown)
