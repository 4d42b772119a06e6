use Rattle.std.proofs.Common.{List, Bool, sym, subst}
use Rattle.label_energies.specs.Energies.{labelling}
use Rattle.near_changes.specs.Changes.{changed_after}
use Rattle.near_changes.specs.Fresh.{AreFresh}
use Rattle.near_changes.specs.Looking.{is_marked}
use Rattle.later_expansions.proofs.later_expansion.look.Goals as goal

pub loop-stage-preserved : goal.loop-stage-preserved
loop-stage-preserved g c =
    let a = c.args in
    let stage = c.in_ok-make_stage.ensures in
    let before = c.loop-stage.invariant in
    record {
      of_problem = stage.of_problem;
      numbers = stage.numbers;
      ready = stage.open c.in-Open.is;
      fresh = λ m meant.
          let F : List Bool → Type 0 = λ flags. AreFresh m a.alpha (labelling a.at.now) (changed_after a.changes.now a.alpha) (is_marked flags) in
          subst F (sym stage.fresh) (before.fresh m meant);
      zeros = λ m meant. stage.zeros m meant c.in-Open.is (before.zeros m meant);
    }

pub returns-in-Closed-clause-least : goal.returns-in-Closed-clause-least
returns-in-Closed-clause-least g c = λ m meant yes was.
    c.in_ok-make_stage.ensures.closed m meant c.in-Closed.is (changed_after c.args.changes.now c.args.alpha) was (c.loop-stage.invariant.fresh m meant)
    (c.loop-stage.invariant.zeros m meant)
