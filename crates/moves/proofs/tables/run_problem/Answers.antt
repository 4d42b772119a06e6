use Rattle.std.proofs.Common.{◌∙◌, sym}
use Rattle.cost_store.proofs.Meaning.{pairs_meant, metric_meant}
use Rattle.moves.proofs.Entries.{metric_run}
use Rattle.moves.proofs.Telling.{made_free, refused_own}
use Rattle.moves.proofs.tables.run_problem.Goals as goal

pub returns-in-Ok-clause-run : goal.returns-in-Ok-clause-run
returns-in-Ok-clause-run g c = λ m meant.
    c.end_run.ensures.run m meant c.args.request.cycles c.args.request.start.at (c.in-Ok.ensures.run m meant)
    (made_free m c.args.request.moves c.args.problem.now.label_costs meant.costs_are c.in-Ok.ensures.free)

pub returns-in-Err-clause-run : goal.returns-in-Err-clause-run
returns-in-Err-clause-run g c = λ m meant.
    let run = c.in-Err.ensures.run m meant in
    (c.run.new.labelling.at, run, refused_own m c.args.request.moves c.args.request.cycles c.args.request.start.at c.run.new.labelling.at c.in-Err.error c.in-Err.ensures.own run)

pub returns-in-Err-clause-metric : goal.returns-in-Err-clause-metric
returns-in-Err-clause-metric g c = λ stored m meant.
    metric_run m _ _ _ c.run.new.labelling c.in-Err.error c.in-Err.ensures.below
    (pairs_meant _ _ _ m c.requires.posed meant)
    (c.in-Err.ensures.sizes.sites ∙ c.requires.fits.sites ∙ sym meant.sites_are)
    (c.in-Err.ensures.sizes.labels ∙ c.requires.fits.labels ∙ sym meant.labels_are)
    (metric_meant _ _ _ m c.requires.posed meant stored)
    (c.in-Err.ensures.run m meant)
