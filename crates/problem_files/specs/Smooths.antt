-- The table that what was read under `smooth` is.
use Rattle.std.specs.Prelude.{ℕ, ℤ, List}
use Rattle.problem_files.specs.declared.smooth.Smooth.{Smooth}
use Rattle.problem_files.specs.declared.smooth.Smooth.TheVariants.{Named, Listed}
use Rattle.run_options.specs.Shapes.{shape_table}

-- the table of k labels, where costs by distance are cut off at the most
abbrev pub table_by : ℕ → Smooth → ℕ → List ℤ
table_by k (Named shape) most = shape_table shape k most
table_by k (Listed costs) most = costs.items
