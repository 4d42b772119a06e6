use Rattle.std.proofs.Common.{arith}
use Rattle.net_in_blocks.proofs.Lowering.{filled_more}
use Rattle.net_in_blocks.proofs.blocks.Blocks.cut_off.Goals as goal

pub nodes-preserved : goal.nodes-preserved
nodes-preserved c =
    filled_more _ _ _ _ c.nodes.v _ c.nodes.invariant c.relabel.ensures (omega (arith, c.nodes-v-end.ensures.value)) (omega (arith, c.nodes-2.ensures.value))
