use Rattle.near_swaps.proofs.Settled.{closed_ends}
use Rattle.near_swaps.proofs.laws.closed_set_ends_swap.Goals as goal

pub returns : goal.returns
returns c = closed_ends
