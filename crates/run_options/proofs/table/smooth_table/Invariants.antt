use Rattle.std.proofs.Common.{◌≡◌}
use Rattle.std.specs.List.{flat_map, range_with_len}
use Rattle.run_options.specs.Shapes.{shape_row}
use Rattle.run_options.proofs.table.smooth_table.Given as goal

abbrev pub invariant-loop-first : goal.invariant-loop-first
invariant-loop-first l = l.table.items ≡ flat_map (shape_row l.shape l.labels l.most) (range_with_len 0 l.first)
