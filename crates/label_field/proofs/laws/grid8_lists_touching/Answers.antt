use Rattle.label_field.proofs.GridLaws.{grid8_lists}
use Rattle.label_field.proofs.laws.grid8_lists_touching.Goals as goal

pub returns : goal.returns
returns c = grid8_lists
