use Rattle.std.proofs.Common.{◌≡◌, ap, subst, refl, arith, length}
use Rattle.block_net.specs.Views.{CellsView}
use Rattle.block_net.specs.Whole.{Whole, block_at}
use Rattle.block_split.specs.Split.{whole_of}
use Rattle.net_in_blocks.specs.Views.{blocks_in}
use Rattle.net_in_blocks.specs.ByBlock.{IsTelling}
use Rattle.net_in_blocks.proofs.Steps.{at_read}
use Rattle.net_in_blocks.proofs.ByBlock.{telling_starts, telling_more}
use Rattle.net_in_blocks.proofs.by_block.tell_block.Goals as goal

pub borders-init : goal.borders-init
borders-init c = telling_starts (whole_of c.args.net.now c.args.parts.now) c.args.block c.requires.laid

pub borders-preserved : goal.borders-preserved
borders-preserved c =
    let w : Whole = whole_of c.args.net.now c.args.parts.now in
    let u : Whole = whole_of c.args.net.now c.borders.parts in
    let t : Whole = whole_of c.args.net.now c.tell_border.new.parts in
    let at = at_read w (blocks_in w) c.args.block c.index.result.now c.requires.laid refl c.requires.block c.index.ensures in
    telling_more w u t c.args.block c.borders.j c.borders.invariant (omega (arith, c.requires.block, c.borders.invariant.number))
    (omega (arith, c.borders.invariant.borders, ap (λ (q : CellsView). length q.borders) at.is, c.borders-j-end.ensures, c.borders-test.true))
    c.tell_border.ensures.told c.tell_border.ensures.laid

pub returns : goal.returns
returns c =
    let w : Whole = whole_of c.args.net.now c.args.parts.now in
    let at = at_read w (blocks_in w) c.args.block c.index.result.now c.requires.laid refl c.requires.block c.index.ensures in
    let all : c.borders.j ≡ length (block_at w c.args.block).borders = omega (arith, ap (λ (q : CellsView). length q.borders) at.is, c.borders-j-end.ensures, c.borders-test.false, c.borders.auto.j-end) in
    subst (IsTelling w (whole_of c.args.net.now c.borders.parts) c.args.block) all c.borders.invariant
