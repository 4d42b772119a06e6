-- The labelling that a table names to start from.
use Rattle.std.specs.Prelude.{ℕ, ◌-◌, map, replicate, Option, Some, None, Result, Ok}
use Rattle.toml.specs.Data.{Data, Members, get_member}
use Rattle.label_field.specs.LabelFields.{LabelField}
use Rattle.problem_files.specs.LabelFieldNames.{and_then, field_name}
use Rattle.problem_files.specs.ListFields.{list_from, natural_of}
use Rattle.problem_files.specs.declared.label_fault.LabelKey.TheVariants.{Start}
use Rattle.problem_files.specs.declared.label_fault.LabelFault.{LabelFault}

unfoldable pub start_from : ℕ → ℕ → Data → Result LabelField LabelFault
start_from sites labels d =
    and_then (list_from Start sites (labels - 1) d)
    (λ ds. Ok (record { labels = labels; at = map natural_of ds }))

abbrev pub start_field : ℕ → ℕ → Option Data → Result LabelField LabelFault
start_field sites labels None = Ok (record { labels = labels; at = replicate sites 0 })
start_field sites labels (Some d) = start_from sites labels d

unfoldable pub start_in : Members → ℕ → ℕ → Result LabelField LabelFault
start_in ms sites labels = start_field sites labels (get_member (field_name Start) ms)
