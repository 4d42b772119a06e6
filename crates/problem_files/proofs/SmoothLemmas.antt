-- The table of a list of costs.
use Rattle.std.proofs.Common.{◌≡◌, ℕ, ◌*◌, ℤ, List, map, Result, Ok, ap, sym}
use Rattle.toml.specs.Data.{Data}
use Rattle.problem_files.specs.declared.label_fault.LabelKey.TheVariants.{Smooth}
use Rattle.problem_files.specs.declared.label_fault.LabelFault.{LabelFault}
use Rattle.run_options.specs.Limits.{greatest_smooth_cost}
use Rattle.problem_files.specs.ListFields.{integer_of, list_from}
use Rattle.problem_files.specs.SmoothFields.{listed_from}

pub table_listed : (k : ℕ) (d : Data) (ds : List Data) (zs : List ℤ) → list_from Smooth (k * k) greatest_smooth_cost d ≡ Ok ds → zs ≡ map integer_of ds
    → listed_from k d ≡ Ok (λ most. zs)
unfolding listed_from
table_listed k d ds zs is e = rw is (ap (λ (xs : List ℤ). let r : Result (ℕ → List ℤ) LabelFault = Ok (λ most. xs) in r) (sym e))
