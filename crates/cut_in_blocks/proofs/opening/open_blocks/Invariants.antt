use Rattle.cut_in_blocks.specs.Opening.{AreOpening}
use Rattle.cut_in_blocks.proofs.opening.open_blocks.Given as goal

abbrev pub invariant-each : goal.invariant-each
invariant-each l = AreOpening l.fn.old.value l.blocks.items
