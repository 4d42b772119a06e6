use Rattle.std.proofs.Common.{◌∙◌, w64}
use Rattle.std.proofs.lemmas.Int.{to_z-of_z}
use Rattle.moves.proofs.stretch.pause_at.Goals as goal

pub returns-clause-parts : goal.returns-clause-parts
returns-clause-parts g c = λ m meant. (
  to_z-of_z w64 c.data_energy-data.result (record { sfits = c.data_energy-data.type_inv }) ∙ c.data_energy-data.ensures.energy m meant,
  to_z-of_z w64 c.smooth_energy-smooth.result (record { sfits = c.smooth_energy-smooth.type_inv }) ∙ c.smooth_energy-smooth.ensures.energy m meant,
  to_z-of_z w64 c.label_energy-label.result (record { sfits = c.label_energy-label.type_inv }) ∙ c.label_energy-label.ensures.energy m meant,
)
