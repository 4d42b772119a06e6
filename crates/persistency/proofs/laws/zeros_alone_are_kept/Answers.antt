use Rattle.persistency.proofs.Strips.{upper_zeros, zeros_of_either}
use Rattle.persistency.proofs.laws.zeros_alone_are_kept.Goals as goal

pub returns : goal.returns
returns c = record { upper = upper_zeros; either = zeros_of_either }
