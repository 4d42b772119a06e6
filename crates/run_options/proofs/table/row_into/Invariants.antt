use Rattle.std.proofs.Common.{◌≡◌, ◌++◌}
use Rattle.run_options.specs.Shapes.{shape_row}
use Rattle.run_options.proofs.table.row_into.Given as goal

abbrev pub invariant-loop-second : goal.invariant-loop-second
invariant-loop-second l = l.table.items ≡ l.initial.table.items ++ shape_row l.shape l.second l.most l.first
