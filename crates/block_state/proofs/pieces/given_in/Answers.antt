use Rattle.std.proofs.Common.{◌≡◌, ◌∙◌, ◌+◌, ◌-◌, ◌<◌, ◌≤◌, ℕ, List, length, slice_index, sum, refl, ap, add-one, arith}
use Rattle.sums.specs.Sums.{sum_below}
use Rattle.block_net.specs.Views.{CellsView, count}
use Rattle.block_net.specs.Whole.{Whole, block_at}
use Rattle.block_split.specs.Split.{whole_of}
use Rattle.net_in_blocks.specs.Views.{blocks_in}
use Rattle.block_state.specs.Pieces.{given_at}
use Rattle.block_state.proofs.Given.{read_node, in_a_row, some_nodes}
use Rattle.net_in_blocks.proofs.Steps.{at_read}
use Rattle.block_state.proofs.pieces.given_in.Goals as goal

pub overflow_add-given : goal.overflow_add-given
overflow_add-given c =
    let w : Whole = whole_of c.args.net.now c.args.parts.now in
    let at = read_node w c.args.block c.index-cells.result.now c.index-first.result.now c.places.place c.requires.laid c.requires.block c.index-cells.ensures c.index-first.ensures
    (omega (arith, c.places-test.true, c.len-place-end.ensures.value)) c.requires.rooms in
    omega (arith, at.node, c.requires.laid.net.count)

pub offset_bounds-sinks-first : goal.offset_bounds-sinks-first
offset_bounds-sinks-first c =
    let w : Whole = whole_of c.args.net.now c.args.parts.now in
    let at = read_node w c.args.block c.index-cells.result.now c.index-first.result.now c.places.place c.requires.laid c.requires.block c.index-cells.ensures c.index-first.ensures
    (omega (arith, c.places-test.true, c.len-place-end.ensures.value)) c.requires.rooms in
    omega (arith, at.node, c.requires.laid.net.count)

pub bounds-sinks-first : goal.bounds-sinks-first
bounds-sinks-first c =
    let w : Whole = whole_of c.args.net.now c.args.parts.now in
    let at = read_node w c.args.block c.index-cells.result.now c.index-first.result.now c.places.place c.requires.laid c.requires.block c.index-cells.ensures c.index-first.ensures
    (omega (arith, c.places-test.true, c.len-place-end.ensures.value)) c.requires.rooms in
    omega (arith, at.node, c.requires.laid.net.same, ap (λ (xs : List ℕ). length xs) c.sinks-sinks.ensures.value)

pub overflow_sub-given : goal.overflow_sub-given
overflow_sub-given c =
    let w : Whole = whole_of c.args.net.now c.args.parts.now in
    let at = read_node w c.args.block c.index-cells.result.now c.index-first.result.now c.places.place c.requires.laid c.requires.block c.index-cells.ensures c.index-first.ensures
    (omega (arith, c.places-test.true, c.len-place-end.ensures.value)) c.requires.rooms in
    omega (arith, at.fits, c.room.ensures, ap (λ (xs : List ℕ). slice_index xs (c.index-first.result.now + c.places.place)) c.sinks-sinks.ensures.value)

pub overflow_add-given-in-places : goal.overflow_add-given-in-places
overflow_add-given-in-places c =
    let w : Whole = whole_of c.args.net.now c.args.parts.now in
    let p = c.places.place in
    let lp : p < count c.index-cells.result.now = omega (arith, c.places-test.true, c.len-place-end.ensures.value) in
    let at = read_node w c.args.block c.index-cells.result.now c.index-first.result.now p c.requires.laid c.requires.block c.index-cells.ensures c.index-first.ensures lp c.requires.rooms in
    let sink = ap (λ (xs : List ℕ). slice_index xs (c.index-first.result.now + p)) c.sinks-sinks.ensures.value in
    let f = λ (i : ℕ). given_at w (slice_index w.firsts c.args.block + i) in
    let more : sum_below p f + f p ≤ sum w.net.sinks = rw add-one at (some_nodes w c.args.block (p + 1) c.requires.laid c.requires.block (omega (arith, lp, at.many))) in
    omega (arith, more, c.places.invariant, sink, c.room.ensures, at.given, c.requires.laid.net.total)

pub places-preserved : goal.places-preserved
places-preserved c =
    let w : Whole = whole_of c.args.net.now c.args.parts.now in
    let p = c.places.place in
    let at = read_node w c.args.block c.index-cells.result.now c.index-first.result.now p c.requires.laid c.requires.block c.index-cells.ensures c.index-first.ensures
    (omega (arith, c.places-test.true, c.len-place-end.ensures.value)) c.requires.rooms in
    let sink = ap (λ (xs : List ℕ). slice_index xs (c.index-first.result.now + p)) c.sinks-sinks.ensures.value in
    let f = λ (i : ℕ). given_at w (slice_index w.firsts c.args.block + i) in
    let here : slice_index c.sinks-sinks.result.now (c.index-first.result.now + p) - c.room.result ≡ f p = omega (arith, sink, c.room.ensures, at.given) in
    rw add-one (omega (arith, here, c.places.invariant))

pub returns : goal.returns
returns c =
    let w : Whole = whole_of c.args.net.now c.args.parts.now in
    let at = at_read w (blocks_in w) c.args.block c.index-cells.result.now c.requires.laid refl c.requires.block c.index-cells.ensures in
    let f = λ (i : ℕ). given_at w (slice_index w.firsts c.args.block + i) in
    let all : c.places.place ≡ count (block_at w c.args.block) = omega (arith, c.places-test.false, c.places.auto.place-end, c.len-place-end.ensures.value, ap (λ (q : CellsView). count q) at.is) in
    c.places.invariant ∙ (ap (λ k. sum_below k f) all ∙ in_a_row w c.args.block c.requires.laid c.requires.block)
