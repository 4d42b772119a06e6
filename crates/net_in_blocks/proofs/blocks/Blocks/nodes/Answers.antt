use Rattle.net_in_blocks.proofs.Opened.{laid_long}
use Rattle.net_in_blocks.proofs.blocks.Blocks.nodes.Goals as goal

pub returns-clause-long : goal.returns-clause-long
returns-clause-long c =
    laid_long _ _ c.self.invariant c.self.view_is
