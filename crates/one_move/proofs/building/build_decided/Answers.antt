use Rattle.std.proofs.lemmas.Result.{err_from_is_err_and}
use Rattle.label_energies.specs.Energies.{labelling}
use Rattle.move_energy.specs.Choices.{choice_at}
use Rattle.cost_store.proofs.Meaning.{pairs_meant}
use Rattle.persistency.proofs.Borders.{decided_agree}
use Rattle.one_move.proofs.OfProblem.{still_of_problem}
use Rattle.one_move.proofs.Forms.{agreed_built, plain_built, form_kept}
use Rattle.one_move.proofs.building.build_decided.Goals as goal

pub decide-requires-clause-asked : goal.decide-requires-clause-asked
decide-requires-clause-asked g c = λ κs lives. record {
  posed = c.requires.asked.posed;
  asked = c.requires.asked.asked;
  few = c.requires.asked.few;
  of_problem = c.in_ok-close_apart.ensures.of_problem;
}

pub returns-in_err-decide : goal.returns-in_err-decide
returns-in_err-decide g c = record {
  of_problem = c.decide.ensures.of_problem;
  left = (let p = err_from_is_err_and c.from_residual-in_err-decide.result c.from_residual-in_err-decide.ensures.1 in rw (p.1) tt);
  form = (let p = err_from_is_err_and c.from_residual-in_err-decide.result c.from_residual-in_err-decide.ensures.1 in rw (p.1) tt);
  built = λ m meant.
      let p = err_from_is_err_and c.from_residual-in_err-decide.result c.from_residual-in_err-decide.ensures.1 in
      rw (p.1, p.2) (c.in_err-decide.ensures.decided m meant);
}

pub returns : goal.returns
returns g c =
    let left = c.in_ok-strip.strip in
    record {
      of_problem = c.leave_strip.ensures.of_problem;
      form = form_kept _ _ c.args.problem.now c.args.at.now c.args.change c.decide.new.space c.leave_strip.new.space
          c.leave_strip.ensures.known.0 c.leave_strip.ensures.known.1 c.in_ok-decide.ensures.weighed.read;
      left = record {
        near = c.in_ok-strip.ensures.near;
        choices = c.in_ok-strip.ensures.choices;
        sized = c.in_ok-strip.ensures.left.sized;
      };
      built = agreed_built _ _ c.args.problem.now c.args.at.now c.args.change c.leave_strip.new.space left c.requires.asked.posed
          (λ m meant. (c.in_ok-decide.ensures.decided m meant).0) c.in_ok-strip.ensures.left
          (λ m meant.
          let decided = c.in_ok-decide.ensures.decided m meant in
          c.in_ok-strip.ensures.agree m meant
          (decided_agree m c.args.change (labelling c.args.at.now) (choice_at c.decide.new.space.built.variables.choices.items) (pairs_meant _ _ _ m c.requires.asked.posed meant)
          decided.0 decided.1));
    }

pub returns-then-branch : goal.returns-then-branch
returns-then-branch g c =
    plain_built _ _ c.args.problem.now c.args.at.now c.args.change c.close_apart.new.space c.leave_rest.new.space c.in_ok-rest.rest c.requires.asked.posed
    (c.in_ok-close_apart.ensures.read c.if-branch.true) c.leave_rest.ensures.same c.leave_rest.ensures.kept c.in_ok-rest.ensures.left
    (λ m meant. c.in_ok-close_apart.ensures.agree m meant c.if-branch.true)

pub returns-in_err-rest : goal.returns-in_err-rest
returns-in_err-rest g c =
    let p = err_from_is_err_and c.from_residual-in_err-rest.result c.from_residual-in_err-rest.ensures.1 in
    record {
      of_problem = still_of_problem _ _ c.args.problem.now c.close_apart.new.space c.leave_rest.new.space c.leave_rest.ensures.same c.in_ok-close_apart.ensures.of_problem;
      left = rw (p.1) tt;
      form = rw (p.1) tt;
      built = λ m meant. rw (p.1, p.2) tt;
    }

pub returns-then-space-size : goal.returns-then-space-size
returns-then-space-size g c =
    plain_built _ _ c.args.problem.now c.args.at.now c.args.change c.decide.new.space c.leave_open.new.space c.in_ok-open.open c.requires.asked.posed
    c.in_ok-decide.ensures.weighed.read c.leave_open.ensures.same c.leave_open.ensures.kept c.in_ok-open.ensures.left
    (λ m meant.
    let decided = c.in_ok-decide.ensures.decided m meant in
    decided_agree m c.args.change (labelling c.args.at.now) (choice_at c.decide.new.space.built.variables.choices.items) (pairs_meant _ _ _ m c.requires.asked.posed meant)
    decided.0 decided.1)
