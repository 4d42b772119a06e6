use Rattle.std.proofs.Common.{◌<◌, ◌≤◌, ◌+◌, ◌*◌, ◌∙◌, List, true, false, unsigned_abs, ap, sym, subst, length, arith}
use Rattle.std.proofs.lemmas.Result.{on_ok_weaker}
use Rattle.move_energy.specs.BySite.{degree}
use Rattle.label_energies.specs.Energies.{labelling}
use Rattle.move_energy.specs.Choices.{choice_at}
use Rattle.move_energy.specs.declared.choice.Choice.{Choice}
use Rattle.move_energy.specs.Assignments.{rise}
use Rattle.move_energy.specs.MoveValues.{move_value}
use Rattle.move_energy.specs.Ends.{decided_or, HasNoneBefore}
use Rattle.site_bounds.specs.Working.{open_ends, budget_of}
use Rattle.site_bounds.proofs.Closed.{same_closed, both_closed, answered_closed}
use Rattle.site_bounds.proofs.Answering.{answered_count, answered_range, answered_total, answered_summed, answered_waits, answered_left, answered_decides}
use Rattle.move_energy.proofs.Places.{degree_most}
use Rattle.site_bounds.proofs.Ranges.{added_of, added_summed, added_range, added_waits, added_total, sum_room}
use Rattle.move_energy.proofs.SiteSums.{sum_passed}
use Rattle.site_forms.proofs.Telling.{form_tells}
use Rattle.site_bounds.proofs.Whole.{partly_more}
use Rattle.site_bounds.proofs.bounds.Bounds.sum_site.Goals as goal

pub answer-requires-clause-bounds : goal.answer-requires-clause-bounds
answer-requires-clause-bounds c =
    let a = c.args in
    let added = added_of a.site _ _ a.self.now c.add_bounds.new.self c.requires.bounds.0 c.requires.bounds.1 c.add_bounds.ensures in
    let one = added_summed (length a.form.now.at.now) a.site _ _ a.self.now c.add_bounds.new.self added c.requires.budget.sized in
    (omega (arith, added.summed, one.within, one.sized.least), omega (arith, added.summed, one.within, one.sized.greatest))

pub answer-requires-clause-choice : goal.answer-requires-clause-choice
answer-requires-clause-choice c =
    let a = c.args in
    let added = added_of a.site _ _ a.self.now c.add_bounds.new.self c.requires.bounds.0 c.requires.bounds.1 c.add_bounds.ensures in
    let count = ap (λ (v : _). length v.items) added.choices in
    omega (arith, count, c.requires.site.0, c.requires.budget.sized.sized.choices)

pub returns : goal.returns
returns c =
    let a = c.args in
    let added = added_of a.site _ _ a.self.now c.add_bounds.new.self c.requires.bounds.0 c.requires.bounds.1 c.add_bounds.ensures in
    let opened = ap (λ (v : _). choice_at v.items a.site) added.choices ∙ c.requires.opened in
    let same = ap (λ (v : _). open_ends a.form.now.ends.now (length a.form.now.at.now) v.items) added.choices in
    let inside : a.site < a.form.now.pairs.now.sites = omega (arith, c.requires.site.0, c.requires.over.sites) in
    let few : degree a.form.now.ends.now a.site ≤ 8388608 = omega (arith, degree_most a.form.now.pairs.now a.form.now.ends.now a.site c.requires.over.by_site inside, c.requires.over.list.count) in
    let rises = c.site_rises-rises in
    let N : List Choice → Type 0 = λ cs. HasNoneBefore cs a.form.now.ends.now a.site in
    let size = ap unsigned_abs (sum_passed rises.result.greatest (degree a.form.now.ends.now a.site) rises.ensures.range.1 few) in
    let more = added_total a.site (10000000 + 10000000 * degree a.form.now.ends.now a.site) _ _ a.self.now c.add_bounds.new.self added c.requires.site.1 (omega (arith, size, rises.ensures.range.1)) in
    on_ok_weaker c.answer.result (λ told. record {
      left = (let less = answered_left a.form.now.ends.now (length a.form.now.at.now) a.site _ c.add_bounds.new.self c.answer.new.self c.requires.site.0 opened told in
          omega (arith, less, same));
      summed = answered_count a.site _ c.add_bounds.new.self c.answer.new.self told ∙ added.summed;
      sized = answered_summed (length a.form.now.at.now) a.site _ c.add_bounds.new.self c.answer.new.self told
          (added_summed (length a.form.now.at.now) a.site _ _ a.self.now c.add_bounds.new.self added c.requires.budget.sized);
      range =
          answered_range a.site _ _ c.add_bounds.new.self c.answer.new.self told
          (added_range a.site (budget_of (open_ends a.form.now.ends.now (length a.form.now.at.now) a.self.now.choices.items)) _ _ a.self.now c.add_bounds.new.self added c.requires.site.1
          (sum_room rises.result.least (degree a.form.now.ends.now a.site) _ rises.ensures.range.0 few (omega (arith, c.requires.budget.left, c.requires.over.list.count)))
          (sum_room rises.result.greatest (degree a.form.now.ends.now a.site) _ rises.ensures.range.1 few (omega (arith, c.requires.budget.left, c.requires.over.list.count))) c.requires.budget.range);
      waiting = answered_waits (a.site + 1) a.site _ c.add_bounds.new.self c.answer.new.self (omega arith) told
          (added_waits a.site _ _ a.self.now c.add_bounds.new.self added c.requires.waiting);
      closed = both_closed a.self.now c.add_bounds.new.self c.answer.new.self (same_closed a.self.now c.add_bounds.new.self added.choices)
          (answered_closed a.site _ c.add_bounds.new.self c.answer.new.self told);
      decided = λ m move read decided.
          let f = labelling a.form.now.at.now in
          let tells = form_tells a.form.now m move read in
          answered_decides m move (labelling a.form.now.at.now) a.form.now.ends.now a.site _ c.add_bounds.new.self c.answer.new.self
          read.instance
          read.by_site
          (omega (arith, inside, read.sites_are))
          (λ none. subst N (sym (ap (λ (v : _). v.items) added.choices)) (subst N c.deref.ensures.value (rises.ensures.alone none))) opened told
          (partly_more m move (labelling a.form.now.at.now) a.site _ _ a.self.now c.add_bounds.new.self read.instance added
          (λ here. (
            sum_passed rises.result.least (degree a.form.now.ends.now a.site) rises.ensures.range.0 few ∙ rises.ensures.least (move_value m move f) tells
                ∙ ap (λ (cs : List Choice). rise (move_value m move (labelling a.form.now.at.now)) a.site (decided_or cs true)) c.deref.ensures.value,
            sum_passed rises.result.greatest (degree a.form.now.ends.now a.site) rises.ensures.range.1 few ∙ rises.ensures.greatest (move_value m move f) tells
                ∙ ap (λ (cs : List Choice). rise (move_value m move (labelling a.form.now.at.now)) a.site (decided_or cs false)) c.deref.ensures.value,
          )) decided);
      total = (let less = answered_total a.site _ c.add_bounds.new.self c.answer.new.self told in
          omega (arith, more, less));
    }) c.answer.ensures
