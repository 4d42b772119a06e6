use Rattle.std.proofs.Common.{◌≤◌, ◌∙◌, ◌+◌, ◌*◌, unsigned_abs, ap, sym, ◌-ℤ◌, get_or, length, w64, to_z, arith}
use Rattle.std.proofs.lemmas.Int.{ints}
use Rattle.std.proofs.lemmas.List.{get_or_default, get_or_past}
use Rattle.label_energies.specs.Energies.{labelling}
use Rattle.move_energy.specs.BySite.{neighbours_start, degree}
use Rattle.move_energy.specs.MoveValues.{move_value}
use Rattle.site_forms.proofs.Places.{starts_up}
use Rattle.site_forms.proofs.Telling.{form_tells}
use Rattle.one_move.specs.Turning.{turned_below}
use Rattle.one_move.proofs.Changes.{site_has}
use Rattle.kept_labels.proofs.Rising.{rise_adds, rise_fits, few_so_far}
use Rattle.one_move.proofs.Rising.{rise_within}
use Rattle.one_move.proofs.Turning.{none_yet, one_more, all_turned, form_over, site_next, site_after, changes_between}
use Rattle.one_move.proofs.energy_change.change_of_listed.Goals as goal

pub turn-total-requires-clause-site : goal.turn-total-requires-clause-site
turn-total-requires-clause-site c =
    (site_has c.requires.listed.0 (length c.args.form.now.at.now) c.args.sites.now c.loop-index.index c.requires.listed.1 c.loop-index-test.true).0

pub loop-index-init : goal.loop-index-init
loop-index-init c = record {
  small = omega (arith, ints);
  told = λ m move is changes.
      let a = c.args in
      let E = move_value m move (labelling a.form.now.at.now) in
      let V = turned_below a.form.now a.choices.now in
      let first = site_next changes.chosen (length a.form.now.at.now) a.sites.now 0 changes.listed (omega arith) in
      none_yet (E (V 0)) ∙ ap (λ z. z -ℤ E (V 0))
      (changes_between m move a.form.now a.choices.now a.sites.now 0 (get_or a.sites.now 0 (length a.form.now.at.now)) is changes (sym first.0) (omega arith));
}

pub overflow_add-total : goal.overflow_add-total
overflow_add-total c =
    let a = c.args in
    let n = length a.form.now.at.now in
    let i = c.loop-index.index in
    let s = get_or a.sites.now i 0 in
    let same = get_or_default a.sites.now i n 0 c.loop-index-test.true in
    let same_start = ap (neighbours_start a.form.now.ends.now) same in
    let inside = (site_has c.requires.listed.0 n a.sites.now i c.requires.listed.1 c.loop-index-test.true).0 in
    let ends = a.form.now.ends.now in
    let places = a.form.now.form.places in
    let here = few_so_far n ends s places (omega (arith, inside)) in
    let next = few_so_far n ends (s + 1) places (omega (arith, inside)) in
    rise_fits (to_z w64 c.loop-index.total-bits) c.turn-total.result (s + neighbours_start ends s) (1 + degree ends s)
    (omega (arith, c.loop-index.invariant.small, same, same_start)) (omega (arith, c.turn-total.ensures.range)) here (omega (arith, next))

pub loop-index-preserved : goal.loop-index-preserved
loop-index-preserved c =
    let a = c.args in
    let n = length a.form.now.at.now in
    let i = c.loop-index.index in
    let s = get_or a.sites.now i 0 in
    let t = get_or a.sites.now (i + 1) n in
    let same = get_or_default a.sites.now i n 0 c.loop-index-test.true in
    let same_start = ap (neighbours_start a.form.now.ends.now) same in
    let inside = (site_has c.requires.listed.0 n a.sites.now i c.requires.listed.1 c.loop-index-test.true).0 in
    let after = site_after c.requires.listed.0 n a.sites.now i c.requires.listed.1 c.loop-index-test.true in
    let within = site_next c.requires.listed.0 n a.sites.now (i + 1) c.requires.listed.1 (omega (arith, c.loop-index-test.true)) in
    let ends = a.form.now.ends.now in
    let places = a.form.now.form.places in
    let here = few_so_far n ends s places (omega (arith, inside)) in
    let next = few_so_far n ends (s + 1) places (omega (arith, inside)) in
    let up = places.rising s inside in
    let on = starts_up n ends (s + 1) t places after.1 within.1 in
    let V = turned_below a.form.now a.choices.now in
    let total = to_z w64 c.loop-index.total-bits in
    let small : unsigned_abs total ≤ 10000000 * (s + neighbours_start ends s) = omega (arith, c.loop-index.invariant.small, same, same_start) in
    let own : unsigned_abs c.turn-total.result ≤ 10000000 * (1 + degree ends s) = omega (arith, c.turn-total.ensures.range) in
    let more = rise_within total c.turn-total.result (s + 1 + neighbours_start ends (s + 1)) (s + neighbours_start ends s) (1 + degree ends s) small own here (omega (arith, next)) (omega (arith, up)) in
    record {
      small = omega (arith, more, after.1, on);
      told = λ m move is changes.
          let E = move_value m move (labelling a.form.now.at.now) in
          let mine = site_after changes.chosen n a.sites.now i changes.listed c.loop-index-test.true in
          let there = site_next changes.chosen n a.sites.now (i + 1) changes.listed (omega (arith, c.loop-index-test.true)) in
          one_more total c.turn-total.result (E (V s)) (E (V (s + 1))) (E (V 0)) _
          (rise_adds total c.turn-total.result (s + neighbours_start ends s) (1 + degree ends s) small own here (omega (arith, next)))
          (c.loop-index.invariant.told m move is changes ∙ ap (λ k. E (V k) -ℤ E (V 0)) same)
          (c.turn-total.ensures.rise E (form_tells a.form.now m move is) (form_over m move a.form.now is))
          ∙ ap (λ z. z -ℤ E (V 0)) (changes_between m move a.form.now a.choices.now a.sites.now (s + 1) t is changes (mine.0 ∙ sym there.0) mine.1);
    }

pub returns-clause-rise : goal.returns-clause-rise
returns-clause-rise c = λ m move is changes.
    let a = c.args in
    let n = length a.form.now.at.now in
    let end = get_or_past a.sites.now c.loop-index.index n c.loop-index-test.false in
    all_turned m move a.form.now a.choices.now (get_or a.sites.now c.loop-index.index n) _ is (omega (arith, end)) (c.loop-index.invariant.told m move is changes)

pub returns-clause-range : goal.returns-clause-range
returns-clause-range c =
    let a = c.args in
    let n = length a.form.now.at.now in
    let places = a.form.now.form.places in
    let end = get_or_past a.sites.now c.loop-index.index n c.loop-index-test.false in
    let start = ap (neighbours_start a.form.now.ends.now) end in
    let within = places.within n (omega arith) in
    omega (arith, c.loop-index.invariant.small, end, start, within, places.few_places, places.few_sites)
