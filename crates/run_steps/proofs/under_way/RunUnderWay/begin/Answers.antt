use Rattle.std.proofs.Common.{◌∙◌}
use Rattle.one_move.proofs.OfProblem.{new_of_problem}
use Rattle.run_steps.proofs.UnderWay.{begins_here, run_from}
use Rattle.run_steps.proofs.under_way.RunUnderWay.begin.Goals as goal

pub returns-clause-run : goal.returns-clause-run
returns-clause-run g c =
    let labels = c.begin.ensures.asked.1 ∙ c.labels.ensures.value ∙ c.requires.fits.labels in
    run_from _ _ c.args.problem.now c.args.moves c.args.cycles c.args.labelling.now.at c.args.labelling.now _
    (record {
      posed = c.requires.posed;
      fits = c.requires.fits;
      of_problem = new_of_problem _ _ c.args.problem.now c.new.result c.new.ensures.ends c.new.ensures.numbers;
      stamped = λ m meant. record { expansions = c.begin_changes.ensures m meant; swaps_are = c.begin_swaps.ensures m meant };
    })
    c.begin.ensures.asked.0 labels c.begin.ensures.asked.2
    (λ m meant. begins_here m c.args.moves c.args.cycles c.args.problem.now.data_cost.labels c.args.labelling.now.at c.begin.result c.begin.ensures.asked.0 labels
    meant.labels_are (c.begin.ensures.stands m c.args.labelling.now.at))
