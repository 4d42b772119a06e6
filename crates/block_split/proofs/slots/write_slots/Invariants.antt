use Rattle.block_split.proofs.Sorted.{AreSlotsTo}
use Rattle.block_split.proofs.slots.write_slots.Given as goal

abbrev pub invariant-loop-index : goal.invariant-loop-index
invariant-loop-index l = AreSlotsTo l.split.net.now l.split.blocks l.index l.slots
