use Rattle.std.proofs.Common.{◌≡◌, ◌+◌, ◌<◌, length, slice_index, refl, sym, ◌∙◌, ap, subst, inl, inr, arith}
use Rattle.std.proofs.lemmas.Bool.{true≢false, cases_lt}
use Rattle.std.proofs.lemmas.List.{get_or_read}
use Rattle.flow_network.specs.Cut.{Network}
use Rattle.block_net.specs.Views.{CellsView, count}
use Rattle.block_net.specs.Whole.{block_at, state_shown}
use Rattle.block_split.specs.Split.{whole_of}
use Rattle.net_in_blocks.specs.Views.{blocks_in, IsSpot}
use Rattle.net_in_blocks.proofs.Steps.{at_read}
use Rattle.global_relabel.specs.Local.{IsLocallyExact}
use Rattle.global_relabel.proofs.Homing.{number_below, spot_at}
use Rattle.global_relabel.proofs.Nearby.{number_blocks, block_of_places, place_of_block}
use Rattle.global_relabel.proofs.exactness.is_block_exact.Goals as goal

pub overflow_add-at : goal.overflow_add-at
overflow_add-at c =
    let s = c.args.state.now in
    let p = c.parts.result.now in
    let labels = c.args.labels.now in
    let is = c.parts.ensures in
    let w = whole_of s.net p in
    let b = c.args.block in
    let lb : b < length p.blocks.items = omega (arith, c.requires.block, number_blocks s p is labels) in
    let at = at_read w (blocks_in w) b c.index.result.now is.laid refl lb c.index.ensures in
    let first : c.index-first.result.now ≡ slice_index p.firsts.items b =
    get_or_read p.firsts.items b c.index-first.result.now (omega (arith, lb, is.laid.placed.firsts_len)) c.index-first.ensures 0 in
    let q = c.nodes.place in
    let lq : q < count (block_at w b) = omega (arith, c.nodes-test.true, c.len-place-end.ensures.value, ap (λ (B : CellsView). count B) at.is) in
    omega (arith, first, number_below w is.laid b lb q lq, is.laid.net.count)

pub is_node_exact-requires-clause-spot : goal.is_node_exact-requires-clause-spot
is_node_exact-requires-clause-spot c =
    let s = c.args.state.now in
    let p = c.parts.result.now in
    let labels = c.args.labels.now in
    let is = c.parts.ensures in
    let w = whole_of s.net p in
    let b = c.args.block in
    let lb : b < length p.blocks.items = omega (arith, c.requires.block, number_blocks s p is labels) in
    let at = at_read w (blocks_in w) b c.index.result.now is.laid refl lb c.index.ensures in
    let first : c.index-first.result.now ≡ slice_index p.firsts.items b =
    get_or_read p.firsts.items b c.index-first.result.now (omega (arith, lb, is.laid.placed.firsts_len)) c.index-first.ensures 0 in
    let q = c.nodes.place in
    let lq : q < count (block_at w b) = omega (arith, c.nodes-test.true, c.len-place-end.ensures.value, ap (λ (B : CellsView). count B) at.is) in
    subst (λ (net : Network). IsSpot (whole_of net p) (c.index-first.result.now + q) b q) (sym c.net.ensures.value)
    (subst (λ f. IsSpot w (f + q) b q) (sym first) (spot_at w is.laid b lb q lq))

pub returns-then-not-is_node_exact : goal.returns-then-not-is_node_exact
returns-then-not-is_node_exact c =
    let s = c.args.state.now in
    let p = c.parts.result.now in
    let labels = c.args.labels.now in
    let is = c.parts.ensures in
    let w = whole_of s.net p in
    let b = c.args.block in
    let lb : b < length p.blocks.items = omega (arith, c.requires.block, number_blocks s p is labels) in
    let at = at_read w (blocks_in w) b c.index.result.now is.laid refl lb c.index.ensures in
    let first : c.index-first.result.now ≡ slice_index p.firsts.items b =
    get_or_read p.firsts.items b c.index-first.result.now (omega (arith, lb, is.laid.placed.firsts_len)) c.index-first.ensures 0 in
    let q = c.nodes.place in
    let lq : q < count (block_at w b) = omega (arith, c.nodes-test.true, c.len-place-end.ensures.value, ap (λ (B : CellsView). count B) at.is) in (
      (λ yes. absurd (true≢false (sym yes))),
      λ all.
          let exact = place_of_block s p is labels b q lb lq all in
          let there = subst (λ f. IsLocallyExact (state_shown w) labels (f + q)) (sym first) exact in
          let as_read = subst (λ (net : Network). IsLocallyExact (state_shown (whole_of net p)) labels (c.index-first.result.now + q)) (sym c.net.ensures.value) there in
          sym c.if-not-is_node_exact.true ∙ c.is_node_exact.ensures.1 as_read,
    )

pub nodes-preserved : goal.nodes-preserved
nodes-preserved c q lq = elim (cases_lt q c.nodes.place) [
  | inl less ↦ c.nodes.invariant q less
  | inr last ↦
      let same : c.nodes.place ≡ q = omega (arith, last, lq) in
      subst (λ r. IsLocallyExact (state_shown (whole_of c.net.result.now c.parts.result.now)) c.args.labels.now (c.index-first.result.now + r)) same
      (c.is_node_exact.ensures.0 c.if-not-is_node_exact.false)
]

pub returns : goal.returns
returns c =
    let s = c.args.state.now in
    let p = c.parts.result.now in
    let labels = c.args.labels.now in
    let is = c.parts.ensures in
    let w = whole_of s.net p in
    let b = c.args.block in
    let lb : b < length p.blocks.items = omega (arith, c.requires.block, number_blocks s p is labels) in
    let at = at_read w (blocks_in w) b c.index.result.now is.laid refl lb c.index.ensures in
    let first : c.index-first.result.now ≡ slice_index p.firsts.items b =
    get_or_read p.firsts.items b c.index-first.result.now (omega (arith, lb, is.laid.placed.firsts_len)) c.index-first.ensures 0 in (
      (λ yes. block_of_places s p is labels b lb (λ q lq.
          let below : q < c.nodes.place = omega (arith, lq, c.nodes-test.false, c.len-place-end.ensures.value, ap (λ (B : CellsView). count B) at.is) in
          let there = subst (λ (net : Network). IsLocallyExact (state_shown (whole_of net p)) labels (c.index-first.result.now + q)) c.net.ensures.value
          (c.nodes.invariant q below) in
          subst (λ f. IsLocallyExact (state_shown w) labels (f + q)) first there)),
      λ all. refl,
    )
