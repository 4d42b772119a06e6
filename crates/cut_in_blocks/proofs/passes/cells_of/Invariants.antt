use Rattle.std.specs.Prelude.{◌≡◌, ◌++◌, vec_items}
use Rattle.std.specs.Vec.Iter.{into_iter_items}
use Rattle.cut_in_blocks.proofs.passes.cells_of.Given as goal

abbrev pub invariant-emptying : goal.invariant-emptying
invariant-emptying l = vec_items l.cells ++ into_iter_items l.block-iterator ≡ vec_items l.fn.blocks
