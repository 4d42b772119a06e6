use Rattle.label_energies.proofs.Best.{best-le}
use Rattle.label_energies.proofs.Chains.{chain-le, beginning-le}
use Rattle.label_energies.proofs.laws.energy_never_rises.Goals as goal

pub returns : goal.returns
returns c = record { one = best-le; run = chain-le; refused = beginning-le }
