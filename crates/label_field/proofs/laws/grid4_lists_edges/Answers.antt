use Rattle.label_field.proofs.GridLaws.{grid4_lists}
use Rattle.label_field.proofs.laws.grid4_lists_edges.Goals as goal

pub returns : goal.returns
returns c = grid4_lists
