-- The fields that are lists of numbers.
use Rattle.std.specs.Prelude.{ℕ, ℤ, pos, unsigned_abs, int_le, Bool, not, ◌&&◌, ◌==◌, List, [], ◌∷◌}
use Rattle.std.specs.Prelude.{length, map, position, Option, Some, None, unwrap_or, Result, Ok, Err}
use Rattle.std.specs.Prelude.{if◌then◌else◌}
use Rattle.std.specs.Option.{is_none}
use Rattle.toml.specs.Data.{Data, Items, no_items, item, Members, as_array, as_integer, get_member}
use Rattle.run_options.specs.Limits.{greatest_data_cost}
use Rattle.problem_files.specs.LabelFieldNames.{and_then, field_name, out_of_range, unless}
use Rattle.problem_files.specs.declared.label_fault.LabelKey.{LabelKey}
use Rattle.problem_files.specs.declared.label_fault.LabelKey.TheVariants as field
use Rattle.problem_files.specs.declared.label_fault.LabelFault.{LabelFault}
use Rattle.problem_files.specs.declared.label_fault.LabelFault.TheVariants.{BadField, BadElement}

-- the items of an array, as a list
abbrev pub list_of : Items → List Data
list_of no_items = []
list_of (item d ds) = d ∷ list_of ds

-- the item has another kind than an integer
abbrev pub is_no_integer : Data → Bool
is_no_integer d = is_none (as_integer d)

-- the integer that an item is
abbrev pub integer_of : Data → ℤ
integer_of d = unwrap_or (as_integer d) (pos 0)

abbrev pub natural_of : Data → ℕ
natural_of d = unsigned_abs (integer_of d)

-- the integer is below 0 or above the most
abbrev pub is_out_of_range : ℕ → Data → Bool
is_out_of_range most d = not (int_le (pos 0) (integer_of d) && int_le (integer_of d) (pos most))

-- the list, if it has so many items, all integers, and each from 0 to the most; its first fault, in
-- this order, if not
unfoldable pub integers_or_fault : LabelKey → ℕ → ℕ → List Data → Result (List Data) LabelFault
integers_or_fault field count most ds =
    if length ds == count then
    unless (position is_no_integer ds) (BadElement field)
    (unless (position (is_out_of_range most) ds) (out_of_range field) (Ok ds))
    else Err (BadField field)

abbrev pub checked_items : LabelKey → ℕ → ℕ → Option Items → Result (List Data) LabelFault
checked_items field count most None = Err (BadField field)
checked_items field count most (Some ds) = integers_or_fault field count most (list_of ds)

-- the list that a value is
unfoldable pub list_from : LabelKey → ℕ → ℕ → Data → Result (List Data) LabelFault
list_from field count most d = checked_items field count most (as_array d)

-- the costs of each of so many labels at sites
unfoldable pub data_from : ℕ → Data → Result (List ℕ) LabelFault
data_from count d = and_then (list_from field.Data count greatest_data_cost d)
    (λ ds. Ok (map natural_of ds))

abbrev pub data_at : ℕ → Option Data → Result (List ℕ) LabelFault
data_at count None = Err (BadField field.Data)
data_at count (Some d) = data_from count d

unfoldable pub data_in : Members → ℕ → Result (List ℕ) LabelFault
data_in ms count = data_at count (get_member (field_name field.Data) ms)
