use Rattle.std.proofs.Common.{subst}
use Rattle.block_net.specs.Whole.{Whole}
use Rattle.block_split.specs.Split.{whole_of}
use Rattle.block_events.specs.Effects.{BlocksView}
use Rattle.net_in_blocks.specs.Views.{blocks_in}
use Rattle.net_in_blocks.specs.ByBlock.{IsRelabelled}
use Rattle.net_in_blocks.proofs.ByBlock.{relabelled_view}
use Rattle.net_in_blocks.proofs.blocks.Blocks.relabel_block.Goals as goal

pub returns : goal.returns
returns c =
    let i = c.self.inside in
    let w : Whole = whole_of i.net i.parts in
    let u : Whole = whole_of i.net c.label_block.new.parts in
    subst (λ (q : BlocksView). IsRelabelled q (blocks_in u) c.args.block c.args.labels.now) c.self.view_is (relabelled_view w u c.args.block c.args.labels.now c.label_block.ensures)
