use Rattle.std.proofs.Common.{refl, true, ◌∙◌, subst}
use Rattle.block_events.specs.declared.direction.Direction.{Direction}
use Rattle.block_events.specs.Directions.{opposite}
use Rattle.block_events.proofs.Lanes.{border_opposite}
use Rattle.block_net.specs.Views.{border_in}
use Rattle.block_net.specs.Whole.{Whole, is_outer}
use Rattle.block_split.specs.Split.{whole_of}
use Rattle.net_in_blocks.specs.Views.{IsRow}
use Rattle.net_in_blocks.proofs.Steps.{at_read, label_read, row_as, back_spot, back_names}
use Rattle.net_in_blocks.proofs.blocks.Blocks.refusal.Goals as goal

pub returns : goal.returns
returns c =
    let i = c.self.inside in
    let w : Whole = whole_of i.net i.parts in
    let b = c.row-block.result.0 in
    let p = c.row-block.result.1 in
    let B = c.index.result.now in
    let at = at_read w c.args.self.now b B c.self.invariant c.self.view_is c.row-block.ensures.block c.index.ensures in
    let x = c.args.direction in
    let found = subst (λ (q : Direction). IsRow w q (is_outer w q) b p) c.opposite_of.ensures c.row-block.ensures in
    let row = row_as w _ b B (opposite x) true p at found (border_opposite c.args.self.now.net c.args.self.now.blocks x ∙ c.requires.border) in
    let label = label_read w _ b B _ (border_in B p).near at (back_spot w _ b B x p at row) in
    rw (c.refusal.ensures, back_names w _ b B x p at row, label) refl
