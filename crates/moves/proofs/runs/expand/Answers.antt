use Rattle.std.proofs.Common.{◌∙◌, sym}
use Rattle.label_energies.specs.declared.change.Move.TheVariants.{Expand}
use Rattle.cost_store.proofs.Meaning.{pairs_meant}
use Rattle.one_move.proofs.OfProblem.{new_of_problem}
use Rattle.moves.proofs.OverMetric.{moved_over_metric}
use Rattle.moves.proofs.runs.expand.Goals as goal

pub returns-clause-over_metric : goal.returns-clause-over_metric
returns-clause-over_metric g c = λ m meant inside.
    moved_over_metric (g.H.How.refuses c.args.how.now) c.args.labelling.now.labels m (Expand c.args.alpha) c.args.labelling.now.at
    c.make_move-moved.new.labelling c.make_move-moved.result c.keeps.ensures.below (pairs_meant _ _ _ m c.requires.posed meant)
    (c.make_move-moved.ensures.sizes.sites ∙ c.requires.fits.sites ∙ sym meant.sites_are)
    (c.make_move-moved.ensures.sizes.labels ∙ c.requires.fits.labels ∙ sym meant.labels_are)
    inside (λ swap. absurd swap) (c.make_move-moved.ensures.moved m meant) c.make_move-moved.ensures.refused

pub make_move-moved-requires-clause-of_problem : goal.make_move-moved-requires-clause-of_problem
make_move-moved-requires-clause-of_problem g c = λ κs lives. new_of_problem _ _ c.args.problem.now c.new-space.result c.new-space.ensures.ends c.new-space.ensures.numbers
