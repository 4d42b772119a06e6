use Rattle.std.proofs.Common.{arith}
use Rattle.std.proofs.lemmas.Grind.{common_steps}
use Rattle.cut_in_blocks.proofs.Opened.{opens_more}
use Rattle.cut_in_blocks.proofs.opening.send_back.Goals as goal

pub lanes-preserved-then-lane-v : goal.lanes-preserved-then-lane-v
lanes-preserved-then-lane-v c =
    (opens_more c.args.cells.now c.lanes.cells c.send.new.cells c.lanes.invariant.0 c.send.ensures.opens, c.lanes.invariant.1, c.lanes.invariant.2, c.lanes.invariant.3, λ yes have. c.send.ensures.gave (grind (arith, common_steps)) (c.lanes.invariant.4 yes have))
