use Rattle.std.proofs.Common.{◌≡◌, sym, ◌∙◌, refl, ap, subst, arith}
use Rattle.std.proofs.lemmas.List.{get_or_read}
use Rattle.block_events.specs.Directions.{IsDirection, near, far}
use Rattle.block_events.proofs.Lanes.{near_opposite}
use Rattle.block_net.specs.Whole.{Whole}
use Rattle.block_split.specs.Split.{whole_of}
use Rattle.net_in_blocks.specs.Views.{blocks_in}
use Rattle.net_in_blocks.proofs.ByBlock.{far_read}
use Rattle.net_in_blocks.proofs.Steps.{at_read, node_below, label_read, top_read}
use Rattle.net_in_blocks.proofs.by_block.far_label.Goals as goal

pub near_of-far-requires : goal.near_of-far-requires
near_of-far-requires c =
    let net = c.args.net.now in
    let w : Whole = whole_of net c.args.parts.now in
    let far = far_read w c.args.block c.args.j c.index.result.now c.border-border.result c.requires.laid c.requires.block c.index.ensures c.requires.place c.border-border.ensures.value in
    subst (IsDirection net) (sym c.opposite_of.ensures) far.row.direction

pub index-requires-2 : goal.index-requires-2
index-requires-2 c =
    let w : Whole = whole_of c.args.net.now c.args.parts.now in
    let far = far_read w c.args.block c.args.j c.index.result.now c.border-border.result c.requires.laid c.requires.block c.index.ensures c.requires.place c.border-border.ensures.value in
    omega (arith, far.spot.block)

pub index-requires-3 : goal.index-requires-3
index-requires-3 c =
    let w : Whole = whole_of c.args.net.now c.args.parts.now in
    let far = far_read w c.args.block c.args.j c.index.result.now c.border-border.result c.requires.laid c.requires.block c.index.ensures c.requires.place c.border-border.ensures.value in
    omega (arith, far.firsts)

pub overflow_sub-far : goal.overflow_sub-far
overflow_sub-far c =
    let net = c.args.net.now in
    let w : Whole = whole_of net c.args.parts.now in
    let r = c.border-border.result in
    let far' = far_read w c.args.block c.args.j c.index.result.now r c.requires.laid c.requires.block c.index.ensures c.requires.place c.border-border.ensures.value in
    let node : c.near_of-far.result ≡ far net r.direction = c.near_of-far.ensures.value ∙ (ap (near net) c.opposite_of.ensures ∙ near_opposite net r.direction) in
    let first = get_or_read w.firsts r.to c.index-3.result.now far'.firsts c.index-3.ensures 0 in
    omega (arith, node, first, far'.first)

pub label-requires : goal.label-requires
label-requires c =
    let net = c.args.net.now in
    let w : Whole = whole_of net c.args.parts.now in
    let r = c.border-border.result in
    let far' = far_read w c.args.block c.args.j c.index.result.now r c.requires.laid c.requires.block c.index.ensures c.requires.place c.border-border.ensures.value in
    let node : c.near_of-far.result ≡ far net r.direction = c.near_of-far.ensures.value ∙ (ap (near net) c.opposite_of.ensures ∙ near_opposite net r.direction) in
    let first = get_or_read w.firsts r.to c.index-3.result.now far'.firsts c.index-3.ensures 0 in
    let at = at_read w _ r.to c.index-2.result.now c.requires.laid refl far'.spot.block c.index-2.ensures in
    omega (arith, node, first, node_below w _ r.to c.index-2.result.now _ _ at far'.spot)

pub returns-clause-row : goal.returns-clause-row
returns-clause-row c =
    let w : Whole = whole_of c.args.net.now c.args.parts.now in
    let far = far_read w c.args.block c.args.j c.index.result.now c.border-border.result c.requires.laid c.requires.block c.index.ensures c.requires.place c.border-border.ensures.value in
    rw far.is far.row

pub returns-clause-value : goal.returns-clause-value
returns-clause-value c =
    let net = c.args.net.now in
    let w : Whole = whole_of net c.args.parts.now in
    let r = c.border-border.result in
    let far' = far_read w c.args.block c.args.j c.index.result.now r c.requires.laid c.requires.block c.index.ensures c.requires.place c.border-border.ensures.value in
    let node : c.near_of-far.result ≡ far net r.direction = c.near_of-far.ensures.value ∙ (ap (near net) c.opposite_of.ensures ∙ near_opposite net r.direction) in
    let first = get_or_read w.firsts r.to c.index-3.result.now far'.firsts c.index-3.ensures 0 in
    let at = at_read w (blocks_in w) r.to c.index-2.result.now c.requires.laid refl far'.spot.block c.index-2.ensures in
    rw far'.is (c.label.ensures.value ∙ (rw (node, first) (label_read w (blocks_in w) r.to c.index-2.result.now _ _ at far'.spot)))

pub returns-clause-limit : goal.returns-clause-limit
returns-clause-limit c =
    let w : Whole = whole_of c.args.net.now c.args.parts.now in
    let r = c.border-border.result in
    let far = far_read w c.args.block c.args.j c.index.result.now r c.requires.laid c.requires.block c.index.ensures c.requires.place c.border-border.ensures.value in
    let at = at_read w (blocks_in w) r.to c.index-2.result.now c.requires.laid refl far.spot.block c.index-2.ensures in
    omega (arith, c.label.ensures.limit, top_read w (blocks_in w) r.to c.index-2.result.now at)
