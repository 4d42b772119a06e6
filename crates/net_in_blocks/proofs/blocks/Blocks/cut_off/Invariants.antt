use Rattle.flow_network.specs.Progress.{top}
use Rattle.net_in_blocks.proofs.Lowering.{IsFilled}
use Rattle.net_in_blocks.proofs.blocks.Blocks.cut_off.Given as goal

abbrev pub invariant-nodes : goal.invariant-nodes
invariant-nodes l = IsFilled l.fn.self l.self (λ v. top l.fn.self.net) l.v
