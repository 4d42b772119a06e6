use Rattle.std.proofs.Common.{rules, ◌+◌, refl, get_or, pos, arith}
use Rattle.move_energy.specs.BySite.{neighbours_start, degree}
use Rattle.kept_labels.proofs.Rising.{held_adds, few_so_far}
use Rattle.kept_labels.proofs.Turning.{none_summed, one_summed, all_summed}
use Rattle.kept_labels.proofs.rises.last_rises.Goals as goal

pub loop-site-init : goal.loop-site-init
loop-site-init c = none_summed c.args.form.now

pub loop-site-preserved : goal.loop-site-preserved
loop-site-preserved c =
    let form = c.args.form.now in
    let s = c.loop-site.site in
    let ends = form.ends.now in
    let places = form.form.places in
    let at = get_or form.at.now s 0 in
    let here = few_so_far _ ends s places (omega (arith, c.loop-site-test.true)) in
    let next = few_so_far _ ends (s + 1) places (omega (arith, c.loop-site-test.true)) in
    let up = places.rising s (omega (arith, c.loop-site-test.true)) in
    one_summed form c.loop-site.rises _ s at (1 + degree ends s) c.rise_of.result _ c.loop-site.invariant refl (search rules) refl
    (held_adds (get_or c.loop-site.rises at (pos 0)) c.rise_of.result (s + neighbours_start ends s) (1 + degree ends s) (c.loop-site.invariant.small at) (omega (arith, c.rise_of.ensures.range)) here (omega (arith, next)))
    (omega (arith, c.rise_of.ensures.range)) (omega (arith, up)) c.rise_of.ensures.rise

pub returns-clause-rises : goal.returns-clause-rises
returns-clause-rises c = λ label l m move is. all_summed c.args.form.now c.loop-site.rises c.loop-site.site label m move (omega (arith, c.loop-site-test.false)) c.loop-site.invariant l is
