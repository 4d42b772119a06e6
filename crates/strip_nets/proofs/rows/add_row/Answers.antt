use Rattle.std.proofs.Common.{◌≡◌, ◌<◌, ◌≤◌, ◌+◌, ◌-◌, ◌∙◌, ◌++◌, ℕ, ℤ, Bool, cond, pos, unsigned_abs, ap, arith, w64, to_z}
use Rattle.label_field.specs.declared.pair.Pair.{Pair}
use Rattle.label_energies.specs.Energies.{labelling}
use Rattle.move_energy.specs.BySite.{degree, neighbours_start}
use Rattle.move_energy.specs.Choices.{choice_at, open_at, open_rank}
use Rattle.move_energy.specs.Weights.{unsaved_surplus}
use Rattle.move_energy.proofs.Parts.{starts_rise}
use Rattle.move_energy.proofs.Weighed.{surplus_passed}
use Rattle.move_energy.proofs.Places.{degree_most}
use Rattle.persistency.specs.Borders.{not_ones, range_of}
use Rattle.persistency.proofs.Rooms.{total_is, total_all}
use Rattle.strip_nets.specs.Views.{strip_view}
use Rattle.strip_nets.proofs.Borders.{border_none, border_more, border_small, one_way, way_one, way_two, way_three}
use Rattle.strip_nets.proofs.Inside.{row_adds, row_adds_all, nothing_adds_yet}
use Rattle.sink_distances.specs.Rows.{arc_ends}
use Rattle.strip_nets.specs.Meeting.{ends_below, strip_ends}
use Rattle.strip_nets.specs.RowForms.{arcs_in, form_in}
use Rattle.strip_nets.proofs.Meeting.{next_begins, ends_on, row_unmet}
use Rattle.strip_nets.proofs.rows.add_row.Goals as goal

pub add_inside-requires-clause-site : goal.add_inside-requires-clause-site
add_inside-requires-clause-site g c = c.requires.site

pub add_inside-requires-clause-laid : goal.add_inside-requires-clause-laid
add_inside-requires-clause-laid g c = c.loop-place.invariant.laid

pub add_inside-requires-clause-begins : goal.add_inside-requires-clause-begins
add_inside-requires-clause-begins g c =
    let a = c.args in
    let p = c.loop-place.place in
    let from : neighbours_start a.material.now.form.ends.now a.site ≤ p = omega (arith, c.row_start-place.ensures, c.loop-place.auto.place) in
    let to : p < neighbours_start a.material.now.form.ends.now (a.site + 1) = omega (arith, c.row_start-place-end.ensures, c.loop-place-test.true) in
    next_begins a.material.now a.sites.now a.site p (arc_ends (arcs_in a.form.now)) (arc_ends (arcs_in c.loop-place.form)) (strip_ends a.material.now a.sites.now) from to
    c.requires.begins c.loop-place.invariant.ends

pub loop-place-init : goal.loop-place-init
loop-place-init g c =
    let a = c.args in
    let f = labelling a.material.now.form.at.now in
    let start = c.row_start-place.ensures in
    let v = strip_view a.material.now.known.now a.sites.now.from a.sites.now.to in
    record {
      ones_small = omega arith;
      beyond_small = omega arith;
      ones = λ m move read. border_none m move f (choice_at a.material.now.start.now) (not_ones (choice_at a.material.now.known.now)) a.material.now.form.ends.now a.site _ start;
      beyond = λ m move read. border_none m move f (choice_at a.material.now.known.now) (range_of a.sites.now.from a.sites.now.to) a.material.now.form.ends.now a.site _ start;
      laid = c.requires.laid;
      ends = row_unmet a.material.now a.sites.now a.site _ (arc_ends (arcs_in a.form.now)) start;
      adds = λ m move read.
          nothing_adds_yet a.material.now.form.ends.now (open_at v) (unsaved_surplus m move f (choice_at v) (open_rank v)) a.site _ (form_in a.form.now) start;
    }

pub loop-place-preserved : goal.loop-place-preserved
loop-place-preserved g c =
    let a = c.args in
    let f = labelling a.material.now.form.at.now in
    let p = c.loop-place.place in
    let from : neighbours_start a.material.now.form.ends.now a.site ≤ p = omega (arith, c.row_start-place.ensures, c.loop-place.auto.place) in
    let to : p < neighbours_start a.material.now.form.ends.now (a.site + 1) = omega (arith, c.row_start-place-end.ensures, c.loop-place-test.true) in
    let few : p - neighbours_start a.material.now.form.ends.now a.site ≤ 4294967296 =
    omega (arith, degree_most a.material.now.form.pairs.now a.material.now.form.ends.now a.site c.requires.can.over.by_site c.requires.site.0, from, to, c.requires.can.over.list.count) in
    let head = c.head_beside-head.ensures.head in
    let i = c.loop-place.invariant in
    let v = strip_view a.material.now.known.now a.sites.now.from a.sites.now.to in
    let one = c.where_counted-ones in
    let past = c.where_counted-beyond in
    let beside = c.look_beside-beside.result in
    let met = c.look_beside-beside.result.met in
    let any = c.counts_somewhere-counts.result in
    let some = c.counts_somewhere-counts.ensures in
    let saving = c.counted_saving-saving.result in
    let passed = surplus_passed saving c.counted_saving-saving.ensures.range in
    let one_few : unsigned_abs one.result ≤ 20000000 = omega (arith, one.ensures.range, ap unsigned_abs passed, c.counted_saving-saving.ensures.range) in
    let past_few : unsigned_abs past.result ≤ 20000000 = omega (arith, past.ensures.range, ap unsigned_abs passed, c.counted_saving-saving.ensures.range) in
    let ones_is = total_is (to_z w64 c.loop-place.ones-bits) one.result (p - neighbours_start a.material.now.form.ends.now a.site) i.ones_small one_few few in
    let past_is = total_is (to_z w64 c.loop-place.beyond-bits) past.result (p - neighbours_start a.material.now.form.ends.now a.site) i.beyond_small past_few few in
    record {
      ones_small = border_small (to_z w64 c.loop-place.ones-bits) one.result _ (neighbours_start a.material.now.form.ends.now a.site) p from i.ones_small one_few ones_is;
      beyond_small = border_small (to_z w64 c.loop-place.beyond-bits) past.result _ (neighbours_start a.material.now.form.ends.now a.site) p from i.beyond_small past_few past_is;
      ones = λ m move read.
          border_more m move f (choice_at a.material.now.start.now) (not_ones (choice_at a.material.now.known.now))
          a.material.now.form.pairs.now a.material.now.form.ends.now a.site p _ c.look_beside-beside.result.one (to_z w64 c.loop-place.ones-bits) one.result _
          c.requires.can.over.list.each c.requires.can.over.by_site c.requires.site.0 from to head c.look_beside-beside.ensures.one ones_is (i.ones m move read)
          (one_way beside.one any saving one.result _ (λ is. some ∙ way_one beside.one beside.beyond met is) (c.counted_saving-saving.ensures.value m move read)
          (one.ensures.value ∙ ap (λ (z : ℤ). cond beside.one z (pos 0)) passed));
      beyond = λ m move read.
          border_more m move f (choice_at a.material.now.known.now) (range_of a.sites.now.from a.sites.now.to)
          a.material.now.form.pairs.now a.material.now.form.ends.now a.site p _ c.look_beside-beside.result.beyond (to_z w64 c.loop-place.beyond-bits) past.result _
          c.requires.can.over.list.each c.requires.can.over.by_site c.requires.site.0 from to head c.look_beside-beside.ensures.beyond past_is (i.beyond m move read)
          (one_way beside.beyond any saving past.result _ (λ is. some ∙ way_two beside.one beside.beyond met is) (c.counted_saving-saving.ensures.value m move read)
          (past.ensures.value ∙ ap (λ (z : ℤ). cond beside.beyond z (pos 0)) passed));
      laid = c.in_ok-add_inside.ensures.laid;
      ends = ends_on a.material.now a.sites.now a.site p (arc_ends (arcs_in a.form.now)) (arc_ends (arcs_in c.loop-place.form)) (arc_ends (arcs_in c.add_inside.new.form)) from i.ends c.in_ok-add_inside.ensures.ends;
      adds = λ m move read.
          row_adds a.material.now.form.ends.now (open_at v) (λ (x : ℕ → Bool) (pair : Pair). unsaved_surplus m move f (choice_at v) (open_rank v) x pair) a.site p
          (form_in a.form.now) (form_in c.loop-place.form) (form_in c.add_inside.new.form) from (i.adds m move read) (c.in_ok-add_inside.ensures.adds m move read
          (one_way met any saving _ _ (λ is. some ∙ way_three beside.one beside.beyond met is) (c.counted_saving-saving.ensures.value m move read)
          (ap (λ (z : ℤ). cond met z (pos 0)) passed)));
    }

pub returns-clause-ones : goal.returns-clause-ones
returns-clause-ones g c =
    λ m move read.
    let a = c.args in
    let f = labelling a.material.now.form.at.now in
    let last : c.loop-place.place - neighbours_start a.material.now.form.ends.now a.site ≡ degree a.material.now.form.ends.now a.site =
    omega (arith, c.row_start-place.ensures, c.row_start-place-end.ensures, starts_rise a.material.now.form.pairs.now a.material.now.form.ends.now a.site c.requires.can.over.by_site c.requires.site.0, c.loop-place.auto.place-end, c.loop-place-test.false) in
    total_all m move f (choice_at a.material.now.start.now) (not_ones (choice_at a.material.now.known.now)) a.material.now.form.pairs.now a.material.now.form.ends.now a.site _ _
    read.pairs_are read.sites_are c.requires.can.over.list c.requires.can.over.by_site c.requires.site.0 last (c.loop-place.invariant.ones m move read)

pub returns-clause-beyond : goal.returns-clause-beyond
returns-clause-beyond g c =
    λ m move read.
    let a = c.args in
    let f = labelling a.material.now.form.at.now in
    let last : c.loop-place.place - neighbours_start a.material.now.form.ends.now a.site ≡ degree a.material.now.form.ends.now a.site =
    omega (arith, c.row_start-place.ensures, c.row_start-place-end.ensures, starts_rise a.material.now.form.pairs.now a.material.now.form.ends.now a.site c.requires.can.over.by_site c.requires.site.0, c.loop-place.auto.place-end, c.loop-place-test.false) in
    total_all m move f (choice_at a.material.now.known.now) (range_of a.sites.now.from a.sites.now.to) a.material.now.form.pairs.now a.material.now.form.ends.now a.site _ _
    read.pairs_are read.sites_are c.requires.can.over.list c.requires.can.over.by_site c.requires.site.0 last (c.loop-place.invariant.beyond m move read)

pub returns-clause-range : goal.returns-clause-range
returns-clause-range g c =
    let a = c.args in
    let last : c.loop-place.place - neighbours_start a.material.now.form.ends.now a.site ≡ degree a.material.now.form.ends.now a.site =
    omega (arith, c.row_start-place.ensures, c.row_start-place-end.ensures, starts_rise a.material.now.form.pairs.now a.material.now.form.ends.now a.site c.requires.can.over.by_site c.requires.site.0, c.loop-place.auto.place-end, c.loop-place-test.false) in
    (omega (arith, last, c.loop-place.invariant.ones_small), omega (arith, last, c.loop-place.invariant.beyond_small))

pub returns-clause-adds : goal.returns-clause-adds
returns-clause-adds g c =
    λ m move read.
    let a = c.args in
    let f = labelling a.material.now.form.at.now in
    let last : c.loop-place.place - neighbours_start a.material.now.form.ends.now a.site ≡ degree a.material.now.form.ends.now a.site =
    omega (arith, c.row_start-place.ensures, c.row_start-place-end.ensures, starts_rise a.material.now.form.pairs.now a.material.now.form.ends.now a.site c.requires.can.over.by_site c.requires.site.0, c.loop-place.auto.place-end, c.loop-place-test.false) in
    let v = strip_view a.material.now.known.now a.sites.now.from a.sites.now.to in
    row_adds_all a.material.now.form.ends.now (open_at v) (λ (x : ℕ → Bool) (pair : Pair). unsaved_surplus m move f (choice_at v) (open_rank v) x pair) a.site _
    (form_in a.form.now) (form_in c.loop-place.form) last (c.loop-place.invariant.adds m move read)

pub returns-clause-laid : goal.returns-clause-laid
returns-clause-laid g c = c.loop-place.invariant.laid

pub returns-clause-ends : goal.returns-clause-ends
returns-clause-ends g c =
    let a = c.args in
    let last : c.loop-place.place - neighbours_start a.material.now.form.ends.now a.site ≡ degree a.material.now.form.ends.now a.site =
    omega (arith, c.row_start-place.ensures, c.row_start-place-end.ensures, starts_rise a.material.now.form.pairs.now a.material.now.form.ends.now a.site c.requires.can.over.by_site c.requires.site.0, c.loop-place.auto.place-end, c.loop-place-test.false) in
    c.loop-place.invariant.ends ∙ ap (λ (k : ℕ). arc_ends (arcs_in a.form.now) ++ ends_below a.material.now a.sites.now a.site k) last
