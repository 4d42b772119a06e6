-- The label costs of a list.
use Rattle.std.proofs.Common.{◌≡◌, ℕ, ℤ, List, map, Option, Some, Result, Ok, ap, sym}
use Rattle.toml.specs.Data.{Data}
use Rattle.problem_files.specs.declared.label_fault.LabelKey.TheVariants.{LabelCosts}
use Rattle.problem_files.specs.declared.label_fault.LabelFault.{LabelFault}
use Rattle.run_options.specs.Limits.{greatest_label_cost}
use Rattle.problem_files.specs.ListFields.{integer_of, list_from}
use Rattle.problem_files.specs.LabelCostFields.{label_costs_from}

pub costs_listed : (k : ℕ) (d : Data) (ds : List Data) (zs : List ℤ) → list_from LabelCosts k greatest_label_cost d ≡ Ok ds → zs ≡ map integer_of ds
    → label_costs_from k d ≡ Ok (Some zs)
unfolding label_costs_from
costs_listed k d ds zs is e = rw is (ap (λ (xs : List ℤ). let r : Result (Option (List ℤ)) LabelFault = Ok (Some xs) in r) (sym e))
