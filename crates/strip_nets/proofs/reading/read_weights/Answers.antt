use Rattle.std.proofs.Common.{◌<◌, ◌≤◌, ◌∙◌, ℕ, get_or, length, unsigned_abs, refl, ap, arith}
use Rattle.label_energies.specs.Energies.{labelling}
use Rattle.move_energy.specs.BySite.{degree}
use Rattle.move_energy.specs.Choices.{choice_at}
use Rattle.move_energy.proofs.Opened.{opened_has, open_true, true_open}
use Rattle.site_bounds.specs.Parts.{site_weight}
use Rattle.move_energy.proofs.Places.{degree_most}
use Rattle.move_energy.proofs.SiteSums.{sum_passed}
use Rattle.strip_nets.specs.Views.{strip_view}
use Rattle.strip_nets.proofs.Borders.{list_more}
use Rattle.strip_nets.proofs.Views.{view_length, open_inside}
use Rattle.strip_nets.proofs.Weighing.{read_more, read_all}
use Rattle.strip_nets.proofs.reading.read_weights.Goals as goal

pub read_weight-requires-clause-site : goal.read_weight-requires-clause-site
read_weight-requires-clause-site c =
    let a = c.args in
    let has = opened_has (strip_view a.known.now a.from a.to) a.opened.now c.loop-index.index c.requires.opened c.loop-index-test.true in
    omega (arith, has.0, view_length a.known.now a.from a.to, c.requires.count)

pub read_weight-requires-clause-opened : goal.read_weight-requires-clause-opened
read_weight-requires-clause-opened c =
    let a = c.args in
    let has = opened_has (strip_view a.known.now a.from a.to) a.opened.now c.loop-index.index c.requires.opened c.loop-index-test.true in
    let u : ℕ = get_or a.opened.now c.loop-index.index 0 in
    true_open (choice_at a.known.now u) (open_inside a.known.now a.from a.to u (open_true (choice_at (strip_view a.known.now a.from a.to) u) has.1)).1

pub loop-index-preserved : goal.loop-index-preserved
loop-index-preserved c =
    let a = c.args in
    let i = c.loop-index.index in
    let l : i < length a.opened.now = c.loop-index-test.true in
    let inv = c.loop-index.invariant in
    let site : ℕ = get_or a.opened.now i 0 in
    let pushed = c.push_reserved.ensures in
    let r = c.requires.over in
    let has = opened_has (strip_view a.known.now a.from a.to) a.opened.now i c.requires.opened l in
    let inside : site < a.form.now.pairs.now.sites = omega (arith, has.0, view_length a.known.now a.from a.to, c.requires.count, r.sites) in
    let few : degree a.form.now.ends.now site ≤ 8388608 = omega (arith, degree_most a.form.now.pairs.now a.form.now.ends.now site r.by_site inside, r.list.count) in
    let pass = sum_passed c.read_weight.result (degree a.form.now.ends.now site) c.read_weight.ensures.range few in
    let small = ap unsigned_abs pass in
    record {
      room = omega (arith, pushed.capacity, inv.room);
      len = omega (arith, pushed.len, inv.len);
      size = read_more c.loop-index.weights.items _ a.opened.now a.form.now.ends.now i site _ l refl pushed.items (omega (arith, small, c.read_weight.ensures.range)) inv.size;
      listed = λ m move told is.
          list_more (site_weight m move (labelling a.form.now.at.now) (choice_at a.known.now)) c.loop-index.weights.items _ a.opened.now i site _ l refl pushed.items
          (pass ∙ c.read_weight.ensures.weight m move told is) (inv.listed m move told is);
    }

pub returns-clause-size : goal.returns-clause-size
returns-clause-size c =
    let a = c.args in
    let r = c.requires.over in
    read_all a.form.now.pairs.now a.form.now.ends.now (strip_view a.known.now a.from a.to) c.loop-index.weights.items a.opened.now c.loop-index.index r.list r.by_site
    (view_length a.known.now a.from a.to ∙ c.requires.count ∙ r.sites) c.requires.opened (omega (arith, c.loop-index-test.false)) c.loop-index.auto.index-end c.loop-index.invariant.size
