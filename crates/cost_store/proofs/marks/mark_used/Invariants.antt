use Rattle.label_energies.specs.Energies.{labelling}
use Rattle.cost_store.specs.LabelCosts.{AreLabelMarks}
use Rattle.cost_store.proofs.marks.mark_used.Given as goal

abbrev pub invariant-loop-site : goal.invariant-loop-site
invariant-loop-site l = AreLabelMarks l.site (labelling l.at) l.marks
