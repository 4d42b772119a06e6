use Rattle.label_energies.specs.Energies.{labelling}
use Rattle.label_energies.proofs.Chains.{settled_is_local}
use Rattle.label_energies.proofs.Ratio.{expansion_bound}
use Rattle.label_energies.proofs.laws.settled_is_near.Goals as goal

pub returns : goal.returns
returns c = λ m table allowed f g done least greatest pairs weighted metric ratio free chain lg h lh.
    expansion_bound m table (labelling g) h least greatest pairs weighted metric ratio free lg lh (settled_is_local m allowed f g done chain)
