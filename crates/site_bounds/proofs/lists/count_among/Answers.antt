use Rattle.std.proofs.Common.{◌≡◌, ◌∙◌, ℕ, List, length, get_or, refl, ap, arith}
use Rattle.sums.specs.Sums.{count_if}
use Rattle.move_energy.specs.Choices.{open_at}
use Rattle.site_bounds.proofs.Among.{listed_inside, picked_count, all_taken, open_test, among_count, among_few}
use Rattle.site_bounds.proofs.lists.count_among.Goals as goal
use Rattle.site_bounds.proofs.lists.count_among.Goals.{then-is_open, else-is_open}

pub loop-place-preserved : goal.loop-place-preserved
loop-place-preserved c =
    let a = c.args in
    let i = c.loop-place.invariant in
    let among = c.requires.among in
    let place = c.loop-place.place in
    let site = get_or a.sites.now place 0 in
    let inside = listed_inside among.before (length a.choices.now) a.sites.now place among.listing c.loop-place-test.true in
    let is = open_test a.choices.now site c.is_open.result inside c.is_open.ensures in
    let more = picked_count (open_at a.choices.now) a.sites.now place c.is_open.result c.loop-place-test.true is in
    elim c.if-is_open.branch [
      | then-is_open w ↦ (let one = ap (λ b. count_if b 1) w.if-is_open.true in record { counted = omega (arith, w.count-is, i.counted, more, one); few = omega (arith, w.count-is, i.few) })
      | else-is_open w ↦ (let none = ap (λ b. count_if b 1) w.if-is_open.false in record { counted = omega (arith, w.count-is, i.counted, more, none); few = omega (arith, w.count-is, i.few) })
    ]

pub returns-clause-count : goal.returns-clause-count
returns-clause-count c =
    let a = c.args in
    let at_end : c.loop-place.place ≡ length a.sites.now = omega (arith, c.loop-place-test.false, c.loop-place.auto.place-end) in
    c.loop-place.invariant.counted ∙ ap (λ (xs : List ℕ). length xs) (all_taken (open_at a.choices.now) a.sites.now _ c.loop-place.place at_end refl) ∙ among_count a.choices.now a.sites.now c.requires.among

pub returns-clause-few : goal.returns-clause-few
returns-clause-few c = omega (arith, c.loop-place.invariant.few, c.loop-place.auto.place-end, among_few c.args.choices.now c.args.sites.now c.requires.among)

pub bounds-choices-sites : goal.bounds-choices-sites
bounds-choices-sites c = listed_inside c.requires.among.before (length c.args.choices.now) c.args.sites.now c.loop-place.place c.requires.among.listing c.loop-place-test.true
