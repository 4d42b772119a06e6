use Rattle.label_energies.proofs.Repeating.{best_again, allowed_again}
use Rattle.label_energies.proofs.laws.repeated_move_is_known.Goals as goal

pub returns : goal.returns
returns c = record { best = best_again; allowed = allowed_again }
