use Rattle.std.proofs.Common.{◌<◌, ◌≤◌, ◌∙◌, ℕ, All, length, ap, sym, subst, arith, false}
use Rattle.block_events.specs.Directions.{far}
use Rattle.block_split.specs.Split.{directions, direction_in, rows_of}
use Rattle.block_split.proofs.Spans.{all_in_span}
use Rattle.block_split.proofs.Made.{far_in_block}
use Rattle.block_split.proofs.Ordered.{rows_grouped, starts_length, starts_rise}
use Rattle.block_split.proofs.Sorted.{inner_rows_are, inner_list}
use Rattle.block_split.proofs.rows.inner_of.Goals as goal

pub span-inner-requires-clause-first : goal.span-inner-requires-clause-first
span-inner-requires-clause-first c =
    let split = c.args.sorted.now.split in
    omega (arith, c.bounds-first.ensures.order, c.bounds-first.ensures.within, starts_length split.net.now split.blocks split.starts.now c.requires.sorted.numbers.starts_are)

pub span-inner-requires-clause-next : goal.span-inner-requires-clause-next
span-inner-requires-clause-next c =
    let split = c.args.sorted.now.split in
    omega (arith, c.bounds-first.ensures.within, starts_length split.net.now split.blocks split.starts.now c.requires.sorted.numbers.starts_are)

pub span-inner-requires-clause-order : goal.span-inner-requires-clause-order
span-inner-requires-clause-order c =
    let split = c.args.sorted.now.split in
    starts_rise split.net.now split.blocks c.bounds-first.result.0 c.bounds-first.result.1 split.starts.now c.requires.sorted.numbers.starts_are c.bounds-first.ensures.order (omega (arith, c.bounds-first.ensures.within))

pub span-inner-requires-clause-within : goal.span-inner-requires-clause-within
span-inner-requires-clause-within c =
    let split = c.args.sorted.now.split in
    let sorted = c.requires.sorted in
    let is = inner_rows_are split.net.now split.blocks split.starts.now c.args.sorted.now.places.now sorted.numbers.is_net sorted.numbers.starts_are sorted.places_are in
    omega (arith, is.places_len, is.within c.bounds-first.result.1 c.bounds-first.ensures.within)

pub lanes_of-requires-clause-room : goal.lanes_of-requires-clause-room
lanes_of-requires-clause-room c =
    let split = c.args.sorted.now.split in
    ap length c.requires.sorted.slots_are ∙ (rows_grouped split.net.now split.blocks c.requires.sorted.numbers.is_net).slots_len

pub lanes_of-requires-clause-small : goal.lanes_of-requires-clause-small
lanes_of-requires-clause-small c =
    let split = c.args.sorted.now.split in
    let sorted = c.requires.sorted in
    let rows = rows_of split.starts.now c.args.sorted.now.places.now in
    let is = inner_rows_are split.net.now split.blocks split.starts.now c.args.sorted.now.places.now sorted.numbers.is_net sorted.numbers.starts_are sorted.places_are in
    subst (All (λ (i : ℕ). i < directions split.net.now)) (sym c.span-inner.ensures)
    (all_in_span (λ (i : ℕ). i < directions split.net.now) split.net.now split.blocks false rows c.bounds-first.result.0 c.bounds-first.result.1 is
    c.bounds-first.ensures.within c.bounds-first.ensures.order (λ p stands. stands.small))

pub lanes_of-requires-clause-far : goal.lanes_of-requires-clause-far
lanes_of-requires-clause-far c =
    let split = c.args.sorted.now.split in
    let net = split.net.now in
    let sorted = c.requires.sorted in
    let first = c.bounds-first.result.0 in
    let next = c.bounds-first.result.1 in
    let rows = rows_of split.starts.now c.args.sorted.now.places.now in
    let is = inner_rows_are net split.blocks split.starts.now c.args.sorted.now.places.now sorted.numbers.is_net sorted.numbers.starts_are sorted.places_are in
    subst (All (λ (i : ℕ). first ≤ far net (direction_in net i))) (sym c.span-inner.ensures)
    (all_in_span (λ (i : ℕ). first ≤ far net (direction_in net i)) net split.blocks false rows first next is
    c.bounds-first.ensures.within c.bounds-first.ensures.order (λ p stands. (far_in_block net split.blocks c.args.block first next rows p c.bounds-first.ensures.first c.bounds-first.ensures.next c.bounds-first.ensures.within c.bounds-first.ensures.limits sorted.numbers.can_split.some stands).0))

pub returns : goal.returns
returns c =
    let split = c.args.sorted.now.split in
    let sorted = c.requires.sorted in
    inner_list split.net.now split.blocks c.args.block c.bounds-first.result.0 c.bounds-first.result.1 split.starts.now c.args.sorted.now.places.now c.args.sorted.now.slots.now c.span-inner.result.now c.in_ok-lanes.lanes.items
    c.bounds-first.ensures.first c.bounds-first.ensures.next sorted.numbers.starts_are sorted.places_are sorted.slots_are c.span-inner.ensures c.in_ok-lanes.ensures
