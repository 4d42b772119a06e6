use Rattle.std.proofs.Common.{◌∙◌, sym, w64}
use Rattle.std.proofs.lemmas.Int.{to_z-of_z}
use Rattle.cost_store.proofs.Meaning.{pairs_meant}
use Rattle.moves.proofs.Telling.{free_costs, tells_bound}
use Rattle.moves.proofs.tables.end_run.Goals as goal

pub returns-clause-run : goal.returns-clause-run
returns-clause-run g c = λ m meant cycles start run may. (
  run,
  to_z-of_z w64 c.data_energy-data.result (record { sfits = c.data_energy-data.type_inv }) ∙ c.data_energy-data.ensures.energy m meant,
  to_z-of_z w64 c.smooth_energy-smooth.result (record { sfits = c.smooth_energy-smooth.type_inv }) ∙ c.smooth_energy-smooth.ensures.energy m meant,
  to_z-of_z w64 c.label_energy-label.result (record { sfits = c.label_energy-label.type_inv }) ∙ c.label_energy-label.ensures.energy m meant,
  tells_bound m c.args.moves start cycles c.args.labelling c.args.ended c.bound_of-bound.result
      (pairs_meant _ _ _ m c.requires.posed meant)
      c.keeps.ensures.below
      (c.requires.fits.sites ∙ sym meant.sites_are)
      (c.requires.fits.labels ∙ sym meant.labels_are)
      run
      (λ bound is. (let known = rw is at c.bound_of-bound.ensures.bound in (known.0, known.1, known.2 m meant)))
      (λ is has_bound. c.bound_of-bound.ensures.exact (cc) has_bound.expansion has_bound.is_settled (c.requires.known m meant has_bound.metric)
      (free_costs m _ _ meant.labels_are c.requires.posed.label_costs meant.costs_are has_bound.free)),
  may,
)
