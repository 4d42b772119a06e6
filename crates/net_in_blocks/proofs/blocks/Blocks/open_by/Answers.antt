use Rattle.net_in_blocks.proofs.Opened.{opened_view, opened_laid}
use Rattle.net_in_blocks.proofs.blocks.Blocks.open_by.Goals as goal

pub invariant_of-result : goal.invariant_of-result
invariant_of-result g c =
    let parts = c.in_ok-parts.parts in
    opened_laid c.args.net c.args.blocks parts c.nodes-nodes.ensures.limits c.requires.split c.in_ok-parts.ensures

pub returns-clause-first : goal.returns-clause-first
returns-clause-first g c =
    let parts = c.in_ok-parts.parts in
    opened_view c.args.net c.args.blocks parts c.in_ok-parts.ensures
