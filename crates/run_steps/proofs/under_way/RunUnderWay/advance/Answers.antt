use Rattle.std.proofs.Common.{◌∙◌, ap, sym, subst, ℕ}
use Rattle.label_energies.specs.Moves.{IsMoveOf}
use Rattle.cost_store.proofs.Meaning.{pairs_meant}
use Rattle.run_steps.specs.declared.course.Course.{Course}
use Rattle.run_steps.proofs.Refused.{run_may_come, costs_swap}
use Rattle.run_steps.proofs.UnderWay.{goes_on_after, moved_after, refused_here, run_from, run_in_of, stands_too, under_way_of}
use Rattle.run_steps.proofs.under_way.RunUnderWay.advance.Goals as goal

pub returns-in-Ok-clause-over : goal.returns-in-Ok-clause-over
returns-in-Ok-clause-over g c = record {
  working = c.in-Ok.ensures.working;
  labels_are = c.pass-self.ensures.asked.1 ∙ ap (λ (s : Course). s.labels) c.in-Ok.ensures.same.0 ∙ c.requires.over.labels_are;
}

pub returns-in-Err-clause-over : goal.returns-in-Err-clause-over
returns-in-Err-clause-over g c = record {
  working = c.in-Err.ensures.working;
  labels_are = ap (λ (s : Course). s.labels) c.in-Err.ensures.same.0 ∙ c.requires.over.labels_are;
}

pub returns-in-Ok-clause-goes_on : goal.returns-in-Ok-clause-goes_on
returns-in-Ok-clause-goes_on g c = λ m meant kind cycles start run.
    let same = c.in-Ok.ensures.same.0 in
    let moved = c.in-Ok.ensures.moved m meant run.stamped in record {
      goes_on = record {
        kind_is = c.pass-self.ensures.asked.0 ∙ ap (λ (s : Course). s.moves) same ∙ run.kind_is;
        allowed_is = c.pass-self.ensures.asked.2 ∙ ap (λ (s : Course). s.allowed) same ∙ run.allowed_is;
        stands = goes_on_after m kind cycles c.args.problem.now.data_cost.labels start c.args.labelling.now.at c.make_next.new.labelling.at
            c.args.self.now.course c.make_next.new.self.course c.pass-self.result c.ahead-change.result c.in-Ok.turned
            same run.kind_is c.requires.over.labels_are run.allowed_is meant.labels_are c.requires.open run.stands
            c.ahead-change.ensures.at (moved.1, moved.2) moved.3
            (λ here goes best told. (c.pass-self.ensures.stands m c.ahead-change.result start c.args.labelling.now.at c.make_next.new.labelling.at
            (pairs_meant _ _ _ m c.requires.over.working.posed meant) here goes best told).0);
        stamped = c.in-Ok.ensures.stamped m meant run.stamped;
      };
      cause = tt;
      own = tt;
    }

pub returns-in-Ok-clause-moved : goal.returns-in-Ok-clause-moved
returns-in-Ok-clause-moved g c = λ m meant kind cycles start run.
    let moved = c.in-Ok.ensures.moved m meant run.stamped in
    moved_after m kind cycles c.args.problem.now.data_cost.labels start c.args.labelling.now.at c.make_next.new.labelling.at
    c.args.self.now.course c.make_next.new.self.course c.pass-self.result c.ahead-change.result c.in-Ok.turned
    c.in-Ok.ensures.same.0 run.kind_is c.requires.over.labels_are meant.labels_are c.requires.open run.stands
    c.ahead-change.ensures.at (moved.1, moved.2) moved.3
    (c.pass-self.ensures.stands m c.ahead-change.result start c.args.labelling.now.at c.make_next.new.labelling.at
    (pairs_meant _ _ _ m c.requires.over.working.posed meant))

pub returns-in-Err-clause-goes_on : goal.returns-in-Err-clause-goes_on
returns-in-Err-clause-goes_on g c = λ m meant kind cycles start run.
    let same = c.in-Err.ensures.same.0 in
    let moved = c.in-Err.ensures.moved m meant run.stamped in record {
      goes_on = record {
        kind_is = ap (λ (s : Course). s.moves) same ∙ run.kind_is;
        allowed_is = ap (λ (s : Course). s.allowed) same ∙ run.allowed_is;
        stands = stands_too m kind cycles start c.args.labelling.now.at c.make_next.new.labelling.at c.args.self.now.course c.make_next.new.self.course same
            moved.0 run.stands;
        stamped = c.in-Err.ensures.stamped m meant run.stamped;
      };
      cause = refused_here m kind cycles c.args.problem.now.data_cost.labels start c.args.labelling.now.at c.make_next.new.labelling.at
          c.args.self.now.course c.ahead-change.result _ run.kind_is c.requires.over.labels_are run.allowed_is meant.labels_are c.requires.open run.stands
          c.ahead-change.ensures.at moved.0 moved.1;
      own = (λ is. sym run.kind_is
          ∙ c.ahead-change.ensures.kind (costs_swap (g.H.How.refuses c.args.how.now) c.args.labelling.now.labels c.ahead-change.result _ is c.in-Err.ensures.refused));
    }

pub returns-in-Ok-clause-chain : goal.returns-in-Ok-clause-chain
returns-in-Ok-clause-chain g c = λ kind cycles start from.
    let same = c.in-Ok.ensures.same.0 in record {
      goes_on = run_from _ _ c.args.problem.now kind cycles start c.make_next.new.labelling _
          (under_way_of _ _ c.args.problem.now _ _ _ _ c.in-Ok.ensures.working (λ m meant. c.in-Ok.ensures.stamped m meant (from.under_way.stamped m meant)))
          (c.pass-self.ensures.asked.0 ∙ ap (λ (s : Course). s.moves) same ∙ from.kind_is)
          (c.pass-self.ensures.asked.1 ∙ ap (λ (s : Course). s.labels) same ∙ from.labels_are)
          (c.pass-self.ensures.asked.2 ∙ ap (λ (s : Course). s.allowed) same ∙ from.allowed_is)
          (λ m meant. (returns-in-Ok-clause-goes_on g c m meant kind cycles start (run_in_of _ _ c.args.problem.now kind cycles start c.args.labelling.now c.args.self.now from m meant)).goes_on.stands);
      cause = λ m meant. tt;
      own = tt;
    }

pub returns-in-Err-clause-chain : goal.returns-in-Err-clause-chain
returns-in-Err-clause-chain g c = λ kind cycles start from.
    let same = c.in-Err.ensures.same.0 in record {
      goes_on = run_from _ _ c.args.problem.now kind cycles start c.make_next.new.labelling c.make_next.new.self
          (under_way_of _ _ c.args.problem.now _ _ _ _ c.in-Err.ensures.working (λ m meant. c.in-Err.ensures.stamped m meant (from.under_way.stamped m meant)))
          (ap (λ (s : Course). s.moves) same ∙ from.kind_is) (ap (λ (s : Course). s.labels) same ∙ from.labels_are)
          (ap (λ (s : Course). s.allowed) same ∙ from.allowed_is)
          (λ m meant. (returns-in-Err-clause-goes_on g c m meant kind cycles start (run_in_of _ _ c.args.problem.now kind cycles start c.args.labelling.now c.args.self.now from m meant)).goes_on.stands);
      cause = λ m meant. (returns-in-Err-clause-goes_on g c m meant kind cycles start (run_in_of _ _ c.args.problem.now kind cycles start c.args.labelling.now c.args.self.now from m meant)).cause;
      own = (λ is. sym from.kind_is
          ∙ c.ahead-change.ensures.kind (costs_swap (g.H.How.refuses c.args.how.now) c.args.labelling.now.labels c.ahead-change.result _ is c.in-Err.ensures.refused));
    }

pub returns-in-Err-clause-refused : goal.returns-in-Err-clause-refused
returns-in-Err-clause-refused g c =
    let over = c.requires.over in
    let P : ℕ → Type 0 = λ k. IsMoveOf k c.ahead-change.result in
    let below = subst P (over.labels_are ∙ sym over.working.fits.labels) c.ahead-change.ensures.below in
    (run_may_come (g.H.How.refuses c.args.how.now) c.args.labelling.now.labels c.ahead-change.result _ below c.in-Err.ensures.refused)
