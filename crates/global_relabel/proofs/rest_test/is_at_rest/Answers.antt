use Rattle.std.proofs.Common.{◌≡◌, ◌<◌, length, slice_index, refl, sym, ◌∙◌, ap, subst, arith}
use Rattle.std.proofs.lemmas.Bool.{true≢false}
use Rattle.std.proofs.lemmas.List.{get_or_read}
use Rattle.block_net.specs.Views.{CellsView, count}
use Rattle.block_net.specs.Whole.{block_at}
use Rattle.block_split.specs.Split.{whole_of}
use Rattle.net_in_blocks.specs.Views.{blocks_in}
use Rattle.net_in_blocks.proofs.Steps.{at_read}
use Rattle.global_relabel.specs.Rest.{IsAtRest}
use Rattle.global_relabel.proofs.Resting.{place_below, rest_of_finished, finished_of_rest}
use Rattle.global_relabel.proofs.rest_test.is_at_rest.Goals as goal

pub is_block_at_rest-requires : goal.is_block_at_rest-requires
is_block_at_rest-requires c =
    let s = c.args.state.now in
    let p = c.parts-parts.result.now in
    let w = whole_of s.net p in
    let lb : c.each.b < length p.blocks.items = omega (arith, c.each-test.true, c.len-b-end.ensures) in
    let at = at_read w (blocks_in w) c.each.b c.index.result.now c.parts-parts.ensures.laid refl lb c.index.ensures in
    λ q lq.
    let here : q < count (block_at w c.each.b) = omega (arith, lq, ap (λ (B : CellsView). count B) at.is) in
    let first : c.index-in-each.result.now ≡ slice_index p.firsts.items c.each.b =
    get_or_read p.firsts.items c.each.b c.index-in-each.result.now (omega (arith, lb, c.parts-parts.ensures.laid.placed.firsts_len)) c.index-in-each.ensures 0 in
    omega (arith, place_below s p c.args.labels.now c.parts-parts.ensures c.requires.exact c.each.b q lb here, first)

pub returns-then-not-is_block_at_rest : goal.returns-then-not-is_block_at_rest
returns-then-not-is_block_at_rest c =
    let s = c.args.state.now in
    let p = c.parts-parts.result.now in
    let w = whole_of s.net p in
    let lb : c.each.b < length p.blocks.items = omega (arith, c.each-test.true, c.len-b-end.ensures) in
    let at = at_read w (blocks_in w) c.each.b c.index.result.now c.parts-parts.ensures.laid refl lb c.index.ensures in (
      (λ yes. absurd (true≢false (sym yes))),
      λ done.
          let rest = rest_of_finished s p c.args.labels.now c.parts-parts.ensures c.requires.exact done c.each.b lb in
          let here = subst (λ (B : CellsView). IsAtRest B (slice_index p.firsts.items c.each.b) c.args.labels.now) at.is rest in
          let first : c.index-in-each.result.now ≡ slice_index p.firsts.items c.each.b =
          get_or_read p.firsts.items c.each.b c.index-in-each.result.now (omega (arith, lb, c.parts-parts.ensures.laid.placed.firsts_len)) c.index-in-each.ensures 0 in
          let true' = c.is_block_at_rest.ensures.1 (subst (λ f. IsAtRest c.index.result.now f c.args.labels.now) (sym first) here) in
          sym c.if-not-is_block_at_rest.true ∙ true',
    )

pub returns : goal.returns
returns c =
    let s = c.args.state.now in
    let p = c.parts-parts.result.now in (
      (λ yes. finished_of_rest s p c.args.labels.now c.parts-parts.ensures c.requires.exact c.requires.quiet
          (λ b lb. c.each.invariant b (omega (arith, lb, c.each-test.false, c.len-b-end.ensures)))),
      λ done. refl,
    )
