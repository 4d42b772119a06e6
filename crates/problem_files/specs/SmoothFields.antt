-- The cost of two labels at the sites of a pair, as a name or a table gives it.
use Rattle.std.specs.Prelude.{ℕ, ℤ, ◌*◌, List, map, Option, Some, None, Result, Ok, Err}
use Rattle.toml.specs.Data.{Data, string, Members, get_member}
use Rattle.problem_files.specs.LabelFieldNames.{and_then, field_name}
use Rattle.problem_files.specs.ListFields.{integer_of, list_from}
use Rattle.problem_files.specs.declared.label_fault.LabelKey.TheVariants.{Smooth}
use Rattle.problem_files.specs.declared.label_fault.LabelFault.{LabelFault}
use Rattle.problem_files.specs.declared.label_fault.LabelFault.TheVariants.{BadField}
use Rattle.run_options.specs.Limits.{greatest_smooth_cost}
use Rattle.run_options.specs.Names.{shape_named}
use Rattle.run_options.specs.Shapes.{shape_table}
use Rattle.run_options.specs.declared.shape.Shape.{Shape}
use Rattle.run_options.specs.declared.shape.Shape.TheVariants.{Potts}

-- the table of k labels that a name stands for, for each number at which costs by distance may be
-- cut off
abbrev pub table_named : ℕ → Option Shape → Result (ℕ → List ℤ) LabelFault
table_named k None = Err (BadField Smooth)
table_named k (Some shape) = Ok (shape_table shape k)

-- the table that a list is, whatever the cut
unfoldable pub listed_from : ℕ → Data → Result (ℕ → List ℤ) LabelFault
listed_from k d = and_then (list_from Smooth (k * k) greatest_smooth_cost d)
    (λ ds. Ok (λ most. map integer_of ds))

-- the table of k labels that a value is, for each number at which costs by distance may be cut off
unfoldable pub smooth_from : ℕ → Data → Result (ℕ → List ℤ) LabelFault
smooth_from k (string name) = table_named k (shape_named name)
smooth_from k d = listed_from k d

abbrev pub smooth_at : ℕ → Option Data → Result (ℕ → List ℤ) LabelFault
smooth_at k None = Ok (shape_table Potts k)
smooth_at k (Some d) = smooth_from k d

unfoldable pub smooth_in : Members → ℕ → Result (ℕ → List ℤ) LabelFault
smooth_in ms k = smooth_at k (get_member (field_name Smooth) ms)
