use Rattle.std.proofs.Common.{◌<◌, ◌≤◌, ◌∙◌, ℕ, All, length, ap, sym, subst, arith, true}
use Rattle.block_events.specs.Directions.{near}
use Rattle.block_split.specs.Split.{directions, direction_in, rows_of}
use Rattle.block_split.proofs.Spans.{all_in_span}
use Rattle.block_split.proofs.Ordered.{rows_grouped, starts_length, outer_length, outer_rise}
use Rattle.block_split.proofs.Sorted.{outer_rows_are, outer_list}
use Rattle.block_split.proofs.rows.outer_of.Goals as goal

pub outer_starts-starts-requires : goal.outer_starts-starts-requires
outer_starts-starts-requires c =
    let split = c.args.sorted.now.split in
    omega (arith, starts_length split.net.now split.blocks split.starts.now c.requires.sorted.numbers.starts_are)

pub span-outer-requires-clause-first : goal.span-outer-requires-clause-first
span-outer-requires-clause-first c =
    let split = c.args.sorted.now.split in
    omega (arith, c.bounds-first.ensures.order, c.bounds-first.ensures.within, outer_length split.net.now split.blocks split.starts.now c.outer_starts-starts.result.now c.requires.sorted.numbers.starts_are c.outer_starts-starts.ensures)

pub span-outer-requires-clause-next : goal.span-outer-requires-clause-next
span-outer-requires-clause-next c =
    let split = c.args.sorted.now.split in
    omega (arith, c.bounds-first.ensures.within, outer_length split.net.now split.blocks split.starts.now c.outer_starts-starts.result.now c.requires.sorted.numbers.starts_are c.outer_starts-starts.ensures)

pub span-outer-requires-clause-order : goal.span-outer-requires-clause-order
span-outer-requires-clause-order c =
    let split = c.args.sorted.now.split in
    outer_rise split.net.now split.blocks c.bounds-first.result.0 c.bounds-first.result.1 split.starts.now c.outer_starts-starts.result.now c.requires.sorted.numbers.starts_are c.outer_starts-starts.ensures c.bounds-first.ensures.order c.bounds-first.ensures.within

pub span-outer-requires-clause-within : goal.span-outer-requires-clause-within
span-outer-requires-clause-within c =
    let split = c.args.sorted.now.split in
    let sorted = c.requires.sorted in
    let is = outer_rows_are split.net.now split.blocks split.starts.now c.outer_starts-starts.result.now c.args.sorted.now.places.now sorted.numbers.is_net sorted.numbers.starts_are c.outer_starts-starts.ensures sorted.places_are in
    omega (arith, is.places_len, is.within c.bounds-first.result.1 c.bounds-first.ensures.within)

pub borders_of-requires-clause-room : goal.borders_of-requires-clause-room
borders_of-requires-clause-room c =
    let split = c.args.sorted.now.split in
    ap length c.requires.sorted.slots_are ∙ (rows_grouped split.net.now split.blocks c.requires.sorted.numbers.is_net).slots_len

pub borders_of-requires-clause-small : goal.borders_of-requires-clause-small
borders_of-requires-clause-small c =
    let split = c.args.sorted.now.split in
    let sorted = c.requires.sorted in
    let rows = rows_of c.outer_starts-starts.result.now c.args.sorted.now.places.now in
    let is = outer_rows_are split.net.now split.blocks split.starts.now c.outer_starts-starts.result.now c.args.sorted.now.places.now sorted.numbers.is_net sorted.numbers.starts_are c.outer_starts-starts.ensures sorted.places_are in
    subst (All (λ (i : ℕ). i < directions split.net.now)) (sym c.span-outer.ensures)
    (all_in_span (λ (i : ℕ). i < directions split.net.now) split.net.now split.blocks true rows c.bounds-first.result.0 c.bounds-first.result.1 is
    c.bounds-first.ensures.within c.bounds-first.ensures.order (λ p stands. stands.small))

pub borders_of-requires-clause-near : goal.borders_of-requires-clause-near
borders_of-requires-clause-near c =
    let split = c.args.sorted.now.split in
    let net = split.net.now in
    let sorted = c.requires.sorted in
    let first = c.bounds-first.result.0 in
    let rows = rows_of c.outer_starts-starts.result.now c.args.sorted.now.places.now in
    let is = outer_rows_are net split.blocks split.starts.now c.outer_starts-starts.result.now c.args.sorted.now.places.now sorted.numbers.is_net sorted.numbers.starts_are c.outer_starts-starts.ensures sorted.places_are in
    subst (All (λ (i : ℕ). first ≤ near net (direction_in net i))) (sym c.span-outer.ensures)
    (all_in_span (λ (i : ℕ). first ≤ near net (direction_in net i)) net split.blocks true rows first c.bounds-first.result.1 is
    c.bounds-first.ensures.within c.bounds-first.ensures.order (λ p stands. stands.low))

pub returns : goal.returns
returns c =
    let split = c.args.sorted.now.split in
    let sorted = c.requires.sorted in
    outer_list split.net.now split.blocks c.args.block c.bounds-first.result.0 c.bounds-first.result.1 split.starts.now c.outer_starts-starts.result.now c.args.sorted.now.places.now c.args.sorted.now.slots.now c.span-outer.result.now c.in_ok-borders.borders.items
    c.bounds-first.ensures.first c.bounds-first.ensures.next sorted.numbers.starts_are c.outer_starts-starts.ensures sorted.places_are sorted.slots_are c.span-outer.ensures c.in_ok-borders.ensures
