use Rattle.std.proofs.Common.{◌∙◌, sym}
use Rattle.cost_store.proofs.Meaning.{pairs_meant}
use Rattle.moves.proofs.OverMetric.{settled_within}
use Rattle.moves.proofs.runs.run_expansion.Goals as goal

pub returns-clause-over_metric : goal.returns-clause-over_metric
returns-clause-over_metric g c = λ m meant. c.run.ensures.over_metric m meant tt

pub returns-clause-near : goal.returns-clause-near
returns-clause-near g c = λ m meant.
    settled_within m c.args.cycles c.args.labelling.now.at c.run.new.labelling c.run.result
    c.run.ensures.below (pairs_meant _ _ _ m c.requires.posed meant)
    (c.run.ensures.sizes.sites ∙ c.requires.fits.sites ∙ sym meant.sites_are)
    (c.run.ensures.sizes.labels ∙ c.requires.fits.labels ∙ sym meant.labels_are)
    (c.run.ensures.run m meant)
