use Rattle.label_energies.proofs.Best.{best_is_one}
use Rattle.label_energies.proofs.laws.best_is_unique.Goals as goal

pub returns : goal.returns
returns c = best_is_one
