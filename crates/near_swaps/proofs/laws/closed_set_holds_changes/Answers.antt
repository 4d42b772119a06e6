use Rattle.near_swaps.proofs.Settled.{closed_holds}
use Rattle.near_swaps.proofs.laws.closed_set_holds_changes.Goals as goal

pub returns : goal.returns
returns c = closed_holds
