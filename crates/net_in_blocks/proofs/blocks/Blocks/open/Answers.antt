use Rattle.net_in_blocks.proofs.Opened.{opened_view, opened_laid}
use Rattle.net_in_blocks.proofs.blocks.Blocks.open.Goals as goal

pub invariant_of-result : goal.invariant_of-result
invariant_of-result c =
    let parts = c.in_ok-parts.parts in
    opened_laid c.args.net c.args.blocks parts c.nodes-nodes.ensures.limits c.requires c.in_ok-parts.ensures

pub returns-clause-first : goal.returns-clause-first
returns-clause-first c =
    let parts = c.in_ok-parts.parts in
    opened_view c.args.net c.args.blocks parts c.in_ok-parts.ensures
