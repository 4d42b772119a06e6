use Rattle.std.proofs.Common.{refl}
use Rattle.cut_in_blocks.proofs.Opened.{opens_more}
use Rattle.cut_in_blocks.proofs.opening.open_block.Goals as goal

pub up-preserved : goal.up-preserved
up-preserved c = opens_more c.args.cells.now c.up.cells c.send_up.new.cells c.up.invariant c.send_up.ensures

pub down-preserved : goal.down-preserved
down-preserved c = opens_more c.args.cells.now c.down.cells c.send_back.new.cells c.down.invariant c.send_back.ensures.opens

pub again-preserved : goal.again-preserved
again-preserved c =
    (opens_more c.args.cells.now c.again.cells c.send_back-in-again.new.cells c.again.invariant.0 c.send_back-in-again.ensures.opens, c.send_back-in-again.ensures.gave refl c.again.invariant.1)
