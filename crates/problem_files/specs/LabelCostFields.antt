-- What each label costs by itself, as a table names it.
use Rattle.std.specs.Prelude.{◌≡◌, ℕ, ℤ, List, length, map, Option, Some, None, Result, Ok, ⊤}
use Rattle.std.specs.Global.{Vec}
use Rattle.std.specs.List.{All}
use Rattle.toml.specs.Data.{Data, Members, get_member}
use Rattle.run_options.specs.Limits.{IsLabelCost, greatest_label_cost}
use Rattle.problem_files.specs.LabelFieldNames.{and_then, field_name}
use Rattle.problem_files.specs.ListFields.{integer_of, list_from}
use Rattle.problem_files.specs.declared.label_fault.LabelKey.TheVariants.{LabelCosts}
use Rattle.problem_files.specs.declared.label_fault.LabelFault.{LabelFault}

-- the costs of so many labels that a list is
unfoldable pub label_costs_from : ℕ → Data → Result (Option (List ℤ)) LabelFault
label_costs_from labels d =
    and_then (list_from LabelCosts labels greatest_label_cost d)
    (λ ds. Ok (Some (map integer_of ds)))

abbrev pub label_costs_at : ℕ → Option Data → Result (Option (List ℤ)) LabelFault
label_costs_at labels None = Ok None
label_costs_at labels (Some d) = label_costs_from labels d

-- the costs of so many labels that a table names, if it does
unfoldable pub label_costs_in : Members → ℕ → Result (Option (List ℤ)) LabelFault
label_costs_in ms labels = label_costs_at labels (get_member (field_name LabelCosts) ms)

-- the costs that were read
abbrev pub costs_told : Option (Vec ℤ) → Option (List ℤ)
costs_told None = None
costs_told (Some costs) = Some costs.items

-- one cost for each label, each in its range, where there are such costs
abbrev pub AreCostsOfLabels : ℕ → Option (List ℤ) → Type 0
AreCostsOfLabels labels None = ⊤
AreCostsOfLabels labels (Some costs) = (length costs ≡ labels) × All IsLabelCost costs
