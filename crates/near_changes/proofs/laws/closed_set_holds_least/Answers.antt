use Rattle.near_changes.proofs.Parts.{closing}
use Rattle.near_changes.proofs.laws.closed_set_holds_least.Goals as goal

pub returns : goal.returns
returns c = closing
