-- The labelling of a list of labels.
use Rattle.std.proofs.Common.{◌≡◌, ℕ, ◌-◌, List, map, Ok, refl}
use Rattle.toml.specs.Data.{Data}
use Rattle.problem_files.specs.declared.label_fault.LabelKey.TheVariants.{Start}
use Rattle.problem_files.specs.ListFields.{list_from, natural_of}
use Rattle.problem_files.specs.StartFields.{start_from}

pub start_listed : (sites labels : ℕ) (d : Data) (ds : List Data) → list_from Start sites (labels - 1) d ≡ Ok ds
    → start_from sites labels d ≡ Ok (record { labels = labels; at = map natural_of ds })
unfolding start_from
start_listed sites labels d ds is = rw is refl
