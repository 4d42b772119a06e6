use Rattle.std.proofs.Common.{◌+◌, ◌*◌, ℕ, length, arith}
use Rattle.std.specs.Prelude.{OnOk}
use Rattle.std.proofs.lemmas.Result.{on_ok_weaker}
use Rattle.move_energy.specs.BySite.{degree}
use Rattle.site_bounds.specs.Working.{IsSummed, IsWithinRange, open_ends}
use Rattle.site_bounds.proofs.Places.{on_ok_two, room_grows}
use Rattle.site_bounds.proofs.bounds.Bounds.decide_told.Goals as goal

pub returns-clause-budget : goal.returns-clause-budget
returns-clause-budget c =
    let a = c.args in
    let form = a.form.now in
    let old = open_ends form.ends.now (length form.at.now) a.self.now.choices.items in
    let new = open_ends form.ends.now (length form.at.now) c.decide.new.self.choices.items in
    let both : OnOk c.decide.result (IsSummed (length form.at.now) c.decide.new.self × ((most : ℕ) → IsWithinRange most a.self.now
    → IsWithinRange (most + 20000000 * degree form.ends.now a.site) c.decide.new.self)) =
    on_ok_two c.decide.result _ _ _ (λ sized range. (sized, range)) c.decide.ensures.sized c.decide.ensures.range in
    on_ok_two c.decide.result _ _ _ (λ less both. record {
      sized = both.0;
      left = omega (arith, less, c.requires.budget.left);
      range = room_grows old new (degree form.ends.now a.site) (length form.pairs.now.list)
          a.self.now c.decide.new.self less c.requires.budget.left c.requires.over.list.count both.1 c.requires.budget.range;
    }) c.decide.ensures.left both

pub returns-clause-decided : goal.returns-clause-decided
returns-clause-decided c = on_ok_weaker c.decide.result (λ decides m move read decided. decides m move read c.told_value-value.ensures decided) c.decide.ensures.decided

pub decide-requires-clause-over : goal.decide-requires-clause-over
decide-requires-clause-over c = c.requires.over

pub decide-requires-clause-sized : goal.decide-requires-clause-sized
decide-requires-clause-sized c = c.requires.budget.sized

pub decide-requires-clause-waiting : goal.decide-requires-clause-waiting
decide-requires-clause-waiting c = c.requires.waiting

pub returns-clause-waiting : goal.returns-clause-waiting
returns-clause-waiting c = c.decide.ensures.waiting

pub returns-clause-total : goal.returns-clause-total
returns-clause-total c = on_ok_two c.decide.result _ _ _ (λ less total. omega (arith, less, total)) c.decide.ensures.left c.decide.ensures.total

pub returns-clause-closed : goal.returns-clause-closed
returns-clause-closed c = c.decide.ensures.closed
