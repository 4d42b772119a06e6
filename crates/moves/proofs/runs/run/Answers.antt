use Rattle.std.proofs.Common.{◌∙◌, sym}
use Rattle.label_energies.specs.Chains.{moves_of}
use Rattle.cost_store.proofs.Meaning.{pairs_meant}
use Rattle.moves.proofs.OverMetric.{run_over_metric}
use Rattle.run_steps.proofs.UnderWay.{finished}
use Rattle.moves.proofs.runs.run.Goals as goal

pub returns-clause-run : goal.returns-clause-run
returns-clause-run g c = λ m meant.
    finished _ _ c.args.problem.now c.args.moves c.args.cycles c.args.labelling.now.at c.finish.new.labelling c.finish.new.self c.finish.result m meant
    (c.finish.ensures.chain c.args.moves c.args.cycles c.args.labelling.now.at c.begin-under_way.ensures.run) c.finish.ensures.ended

pub returns-clause-own : goal.returns-clause-own
returns-clause-own g c = (c.finish.ensures.chain c.args.moves c.args.cycles c.args.labelling.now.at c.begin-under_way.ensures.run).own

pub returns-clause-over_metric : goal.returns-clause-over_metric
returns-clause-over_metric g c = λ m meant make.
    let step = c.finish.ensures.chain c.args.moves c.args.cycles c.args.labelling.now.at c.begin-under_way.ensures.run in
    run_over_metric (g.H.How.refuses c.args.how.now) m c.args.moves (moves_of c.args.moves m.labels) c.args.cycles c.args.labelling.now.at
    c.finish.new.labelling c.finish.result c.finish.ensures.below (pairs_meant _ _ _ m c.requires.posed meant)
    (c.finish.ensures.sizes.sites ∙ c.requires.fits.sites ∙ sym meant.sites_are)
    (c.finish.ensures.sizes.labels ∙ c.requires.fits.labels ∙ sym meant.labels_are)
    make step.own
    (finished _ _ c.args.problem.now c.args.moves c.args.cycles c.args.labelling.now.at c.finish.new.labelling c.finish.new.self c.finish.result m meant
    step c.finish.ensures.ended)
    c.finish.ensures.refused
