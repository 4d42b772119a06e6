use Rattle.near_changes.proofs.Noting.{move_stamped}
use Rattle.near_changes.proofs.laws.noted_move_is_stamped.Goals as goal

pub returns : goal.returns
returns c = move_stamped
