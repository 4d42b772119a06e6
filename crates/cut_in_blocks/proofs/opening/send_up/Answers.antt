use Rattle.cut_in_blocks.proofs.Opened.{opens_more}
use Rattle.cut_in_blocks.proofs.opening.send_up.Goals.{then-lane-v, else-lane-v}
use Rattle.cut_in_blocks.proofs.opening.send_up.Goals as goal

pub lanes-preserved : goal.lanes-preserved
lanes-preserved c = elim c.if-lane-v.branch [
  | then-lane-v w ↦ (rw (w.cells-is) (opens_more c.args.cells.now c.lanes.cells w.send.new.cells c.lanes.invariant.0 w.send.ensures.opens), c.lanes.invariant.1, c.lanes.invariant.2, c.lanes.invariant.3)
  | else-lane-v w ↦ rw (w.cells-is) c.lanes.invariant
]
