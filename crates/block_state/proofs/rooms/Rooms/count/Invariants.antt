use Rattle.block_state.specs.Counting.{IsCounted}
use Rattle.block_state.proofs.rooms.Rooms.count.Given as goal

abbrev pub invariant-arcs : goal.invariant-arcs
invariant-arcs l = IsCounted l.blocks l.arc l.rooms
