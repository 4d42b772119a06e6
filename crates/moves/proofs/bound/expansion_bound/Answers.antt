use Rattle.std.proofs.Common.{◌∙◌, ℕ, List, ℤ, sym, subst}
use Rattle.label_energies.specs.Energies.{IsMetric, IsRatio}
use Rattle.cost_store.specs.LabelCosts.{AreFree}
use Rattle.one_move.proofs.Answers.{costs_free}
use Rattle.cost_store.proofs.Meaning.{metric_weighted, smooth_meant}
use Rattle.moves.proofs.bound.expansion_bound.Goals as goal

pub returns-clause-bound : goal.returns-clause-bound
returns-clause-bound g c = λ m meant.
    let posed = c.requires.posed in
    let costs = c.args.problem.now.label_costs in
    let S : List ℤ → Type 0 = λ list. AreFree list in
    let free = subst S c.costs_of.ensures (c.has_cost.ensures.none c.if-has_cost.false) in
    let stored = c.if-not-problem.false in
    let weighted = metric_weighted _ _ _ posed stored in
    let prices = smooth_meant _ _ _ m posed meant weighted in
    let labels_are = posed.smooth_labels ∙ sym meant.labels_are in
    let M : ℕ → Type 0 = λ k. IsMetric k prices.table in
    let R : ℕ → Type 0 = λ k. IsRatio k prices.table c.ratio-ratio.result.least c.ratio-ratio.result.greatest in
    record {
      metric = record {
        table = prices.table;
        weighted = prices.weighted;
        metric = subst M labels_are ((posed.smooth weighted).metric stored prices.table prices.answers);
      };
      ratio = subst R labels_are (c.ratio-ratio.ensures prices.table prices.answers);
      free = costs_free m costs meant.costs_are free;
    }

pub ratio-ratio-requires : goal.ratio-ratio-requires
ratio-ratio-requires g c = record { keeps = c.requires.posed.smooth (metric_weighted _ _ _ c.requires.posed c.if-not-problem.false) }
