use Rattle.std.proofs.Common.{sym, subst}
use Rattle.block_net.specs.Views.{CellsView}
use Rattle.block_discharge.specs.Turns.{IsKnown}
use Rattle.block_discharge.proofs.block.Block.in_room.Goals as goal

pub invariant_of-result : goal.invariant_of-result
invariant_of-result c = subst (λ (b : CellsView). IsKnown b c.in_ok-others.others.items) (sym c.in_ok-bucketed.ensures) c.in_ok-others.ensures
