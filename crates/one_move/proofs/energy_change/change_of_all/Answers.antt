use Rattle.std.proofs.Common.{◌≤◌, ◌+◌, length, w64, to_z, arith}
use Rattle.std.proofs.lemmas.Int.{ints}
use Rattle.move_energy.specs.BySite.{neighbours_start, degree}
use Rattle.one_move.specs.Turning.{turned_below}
use Rattle.kept_labels.proofs.Rising.{rise_adds, rise_fits, few_so_far}
use Rattle.one_move.proofs.Rising.{rise_within}
use Rattle.one_move.proofs.Turning.{nothing_turned, one_more, told_rise}
use Rattle.one_move.proofs.energy_change.change_of_all.Goals as goal

pub loop-site-init : goal.loop-site-init
loop-site-init c = record {
  small = omega (arith, ints);
  told = nothing_turned c.args.form.now c.args.choices.now;
}

pub overflow_add-total : goal.overflow_add-total
overflow_add-total c =
    let a = c.args in
    let s = c.loop-site.site in
    let ends = a.form.now.ends.now in
    let places = a.form.now.form.places in
    let here = few_so_far _ ends s places (omega (arith, c.loop-site-test.true)) in
    let next = few_so_far _ ends (s + 1) places (omega (arith, c.loop-site-test.true)) in
    rise_fits (to_z w64 c.loop-site.total-bits) c.turn-total.result (s + neighbours_start ends s) (1 + degree ends s)
    c.loop-site.invariant.small (omega (arith, c.turn-total.ensures.range)) here (omega (arith, next))

pub loop-site-preserved : goal.loop-site-preserved
loop-site-preserved c =
    let a = c.args in
    let s = c.loop-site.site in
    let ends = a.form.now.ends.now in
    let places = a.form.now.form.places in
    let here = few_so_far _ ends s places (omega (arith, c.loop-site-test.true)) in
    let next = few_so_far _ ends (s + 1) places (omega (arith, c.loop-site-test.true)) in
    let up = places.rising s (omega (arith, c.loop-site-test.true)) in
    let V = turned_below a.form.now a.choices.now in
    record {
      small = rise_within (to_z w64 c.loop-site.total-bits) c.turn-total.result (s + 1 + neighbours_start ends (s + 1)) (s + neighbours_start ends s) (1 + degree ends s)
          c.loop-site.invariant.small (omega (arith, c.turn-total.ensures.range)) here (omega (arith, next)) (omega (arith, up));
      told = λ E tells over.
          one_more (to_z w64 c.loop-site.total-bits) c.turn-total.result (E (V s)) (E (V (s + 1))) (E (V 0)) _
          (rise_adds (to_z w64 c.loop-site.total-bits) c.turn-total.result (s + neighbours_start ends s) (1 + degree ends s)
          c.loop-site.invariant.small (omega (arith, c.turn-total.ensures.range)) here (omega (arith, next)))
          (c.loop-site.invariant.told E tells over) (c.turn-total.ensures.rise E tells over);
    }

pub returns-clause-rise : goal.returns-clause-rise
returns-clause-rise c = λ m move is.
    told_rise c.args.form.now c.args.choices.now c.loop-site.site _ (omega (arith, c.loop-site-test.false)) c.loop-site.invariant.told m move is

pub returns-clause-range : goal.returns-clause-range
returns-clause-range c =
    let places = c.args.form.now.form.places in
    let end : c.loop-site.site ≤ length c.args.form.now.at.now = omega (arith, c.loop-site.auto.site-end) in
    let within = places.within c.loop-site.site end in
    omega (arith, c.loop-site.invariant.small, within, places.few_places, places.few_sites, end)
