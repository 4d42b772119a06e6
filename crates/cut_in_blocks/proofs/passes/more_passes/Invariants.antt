use Rattle.std.proofs.Common.{◌≡◌}
use Rattle.cut_in_blocks.specs.Passes.{IsGoing}
use Rattle.cut_in_blocks.proofs.passes.more_passes.Given as goal

abbrev pub invariant-rounds : goal.invariant-rounds
invariant-rounds l = IsGoing l.fn.old.value l.blocks.items l.ways 1 × (l.slots.items ≡ l.fn.old.value.parts.slots.items)
