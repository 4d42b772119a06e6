-- The fields that are one number.
use Rattle.std.specs.Prelude.{ℕ, ℤ, pos, ◌&&◌, nat_le, Option, Some, None, Result, Ok, Err}
use Rattle.std.specs.Prelude.{if◌then◌else◌}
use Rattle.toml.specs.Data.{Data, Members, as_integer, get_member}
use Rattle.problem_files.specs.LabelFieldNames.{field_name}
use Rattle.problem_files.specs.declared.label_fault.LabelKey.{LabelKey}
use Rattle.problem_files.specs.declared.label_fault.LabelFault.{LabelFault}
use Rattle.problem_files.specs.declared.label_fault.LabelFault.TheVariants.{BadField}

-- the number that an integer is, if it is one from the least to the most
abbrev pub number_within : LabelKey → ℕ → ℕ → Option ℤ → Result ℕ LabelFault
number_within field least most (Some (pos n)) =
    if nat_le least n && nat_le n most then Ok n else Err (BadField field)
number_within field least most _ = Err (BadField field)

abbrev pub number_from : LabelKey → ℕ → ℕ → Data → Result ℕ LabelFault
number_from field least most d = number_within field least most (as_integer d)

-- the number that stands in a field, or what is due where nothing does
abbrev pub number_field : Result ℕ LabelFault → LabelKey → ℕ → ℕ → Option Data → Result ℕ LabelFault
number_field missing field least most None = missing
number_field missing field least most (Some d) = number_from field least most d

-- the number that a field must be
unfoldable pub number_in : Members → LabelKey → ℕ → ℕ → Result ℕ LabelFault
number_in ms field least most =
    number_field (Err (BadField field)) field least most (get_member (field_name field) ms)

-- the number that a field is, with a default
unfoldable pub number_or : Members → LabelKey → ℕ → ℕ → ℕ → Result ℕ LabelFault
number_or ms field least most default =
    number_field (Ok default) field least most (get_member (field_name field) ms)
