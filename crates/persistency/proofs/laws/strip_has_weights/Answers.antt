use Rattle.persistency.proofs.Borders.{strip_weights, less_weights, weights_go_on}
use Rattle.persistency.proofs.laws.strip_has_weights.Goals as goal

pub returns : goal.returns
returns c = record { lower = strip_weights; upper = less_weights; later = weights_go_on }
