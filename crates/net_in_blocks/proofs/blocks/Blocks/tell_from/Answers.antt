use Rattle.std.proofs.Common.{subst, arith, ap}
use Rattle.block_net.specs.Whole.{Whole}
use Rattle.block_split.specs.Split.{whole_of}
use Rattle.block_events.specs.Effects.{BlocksView}
use Rattle.net_in_blocks.specs.Views.{blocks_in}
use Rattle.net_in_blocks.specs.ByBlock.{IsToldFrom}
use Rattle.net_in_blocks.proofs.ByBlock.{told_view}
use Rattle.net_in_blocks.proofs.blocks.Blocks.tell_from.Goals as goal

pub tell_block-requires-clause-block : goal.tell_block-requires-clause-block
tell_block-requires-clause-block c = omega (arith, c.requires, ap (λ (q : BlocksView). q.blocks) c.self.view_is)

pub returns : goal.returns
returns c =
    let i = c.self.inside in
    let w : Whole = whole_of i.net i.parts in
    let u : Whole = whole_of i.net c.tell_block.new.parts in
    subst (λ (q : BlocksView). IsToldFrom q (blocks_in u) c.args.block) c.self.view_is (told_view w u c.args.block c.self.invariant (omega (arith, c.requires, ap (λ (q : BlocksView). q.blocks) c.self.view_is)) c.tell_block.ensures)
