use Rattle.std.proofs.Common.{◌≡◌, ◌<◌, length, slice_index, arith}
use Rattle.std.proofs.lemmas.List.{get_or_read}
use Rattle.block_net.specs.Views.{count}
use Rattle.block_net.specs.Whole.{Whole, block_at}
use Rattle.block_split.specs.Split.{whole_of}
use Rattle.global_relabel.proofs.Homing.{number_below}
use Rattle.distance_search.proofs.by_blocks.tell_all.Goals as goal

pub tell-requires : goal.tell-requires
tell-requires c p lp =
    let w : Whole = whole_of c.args.net.now c.args.parts.now in
    let b = c.each.b in
    let lb : b < length c.args.parts.now.blocks.items = omega (arith, c.each-test.true, c.requires.shares.len) in
    let first : c.index.result.now ≡ slice_index w.firsts b =
    get_or_read w.firsts b c.index.result.now (omega (arith, lb, c.requires.laid.placed.firsts_len)) c.index.ensures 0 in
    let place : p < count (block_at w b) = omega (arith, lp, c.requires.shares.each b c.index-shares-b.result lb) in
    omega (arith, first, number_below w c.requires.laid b lb p place, c.requires.labels, c.each.invariant.len)
