use Rattle.persistency.proofs.Borders.{decided_agree, partly_agree, bounds_tell, batches_end}
use Rattle.persistency.proofs.laws.batches_end_move.Goals as goal

pub returns : goal.returns
returns c = record { decided = decided_agree; partly = partly_agree; told = bounds_tell; ended = batches_end }
