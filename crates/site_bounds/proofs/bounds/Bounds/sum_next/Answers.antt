use Rattle.std.proofs.Common.{◌∙◌, ℕ, sym, ap, subst, length, arith}
use Rattle.label_energies.specs.Energies.{labelling}
use Rattle.site_bounds.specs.Working.{AreWaiting, ArePartlyDecided, open_ends}
use Rattle.site_bounds.proofs.Closed.{same_closed, both_closed}
use Rattle.site_bounds.proofs.Course.{on_ok_seven}
use Rattle.site_bounds.proofs.Passing.{passed_total, passed_decides}
use Rattle.site_bounds.proofs.bounds.Bounds.sum_next.Goals as goal

pub returns : goal.returns
returns c =
    let a = c.args in
    let form = a.form.now in
    let n = length form.at.now in
    let mid = c.pass_to.new.self in
    let passes = c.pass_to.ensures in
    let one = c.in_ok-sum_site.ensures in
    let new = c.decide_waiting.new.self in
    let e = c.decide_waiting.ensures in
    let W : ℕ → Type 0 = λ k. AreWaiting k new in
    let same = ap (λ (v : _). open_ends form.ends.now n v.items) passes.choices in
    on_ok_seven c.decide_waiting.result _ _ _ _ _ _ _ _ (λ budget summed waiting none closed total decided. record {
      summed = summed ∙ one.summed;
      budget = budget;
      waiting = subst W one.summed waiting;
      none = none;
      closed = both_closed a.self.now mid new (same_closed a.self.now mid passes.choices) (both_closed mid c.sum_site.new.self new one.closed closed);
      total = omega (arith, total, one.total, one.left, same, passed_total a.site a.self.now mid passes);
      decided = λ m move read begun.
          let f = labelling form.at.now in
          let D : ℕ → Type 0 = λ k. ArePartlyDecided m move f k c.sum_site.new.self in
          let E : ℕ → Type 0 = λ k. ArePartlyDecided m move f k new in
          subst E one.summed (decided m move read (subst D (sym one.summed) (one.decided m move read (passed_decides m move f a.site a.self.now mid passes begun))));
    }) e.budget e.same e.waiting e.none e.closed e.total e.decided
