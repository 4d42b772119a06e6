use Rattle.std.specs.Prelude.{◌≡◌, ◌++◌, vec_items}
use Rattle.std.specs.Vec.Iter.{into_iter_items}
use Rattle.cut_in_blocks.proofs.passes.blocks_of.Given as goal

abbrev pub invariant-filling : goal.invariant-filling
invariant-filling l = vec_items l.blocks ++ into_iter_items l.each-iterator ≡ vec_items l.fn.cells
