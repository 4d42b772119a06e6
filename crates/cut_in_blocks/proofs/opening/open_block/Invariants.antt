use Rattle.cut_in_blocks.specs.Opening.{Opens, HaveGiven}
use Rattle.cut_in_blocks.proofs.opening.open_block.Given as goal

abbrev pub invariant-up : goal.invariant-up
invariant-up l = Opens l.fn.cells l.cells

abbrev pub invariant-down : goal.invariant-down
invariant-down l = Opens l.fn.cells l.cells

abbrev pub invariant-again : goal.invariant-again
invariant-again l = Opens l.fn.cells l.cells × HaveGiven l.v l.cells
