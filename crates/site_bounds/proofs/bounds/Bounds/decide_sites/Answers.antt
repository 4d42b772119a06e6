use Rattle.std.proofs.Common.{◌<◌, ◌≤◌, ◌∙◌, length, arith}
use Rattle.site_bounds.proofs.Course.{way_begins, way_more, way_ends}
use Rattle.site_bounds.proofs.bounds.Bounds.decide_sites.Goals as goal

pub loop-site-init : goal.loop-site-init
loop-site-init c = record {
  same = c.in_ok-make_room.ensures.same.2 ∙ c.requires.unsummed.unsummed.summed;
  way = way_begins c.args.form.now c.args.self.now c.make_room.new.self c.requires.over c.requires.unsummed c.in_ok-make_room.ensures.sized c.in_ok-make_room.ensures.same;
}

pub loop-site-preserved : goal.loop-site-preserved
loop-site-preserved c =
    let a = c.args in
    let i = c.loop-site.invariant in
    let next = c.next_open-next.result in
    let sums = c.in_ok-sum_next.ensures in
    let e = c.next_open-next.ensures in
    let on : c.loop-site.self.summed ≤ next = omega (arith, i.same, e.within.0) in
    let inside : next < length a.form.now.at.now = omega (arith, e.within.1, c.deref.ensures.len, i.way.budget.sized.sized.choices, c.if-next-sites.false) in
    record { same = sums.summed; way = way_more a.form.now a.self.now c.loop-site.self c.sum_next.new.self next c.requires.over on inside sums i.way }

pub returns : goal.returns
returns c = way_ends c.args.form.now c.args.self.now c.loop-site.self c.pass_rest.new.self c.requires.over c.pass_rest.ensures c.loop-site.invariant.way
