-- The instance that a problem of tables is.
use Rattle.std.specs.Prelude.{List, [], ℤ, Option, Some, None}
use Rattle.problem_files.specs.Names.{Problem}
use Rattle.label_energies.specs.Energies.{Instance}
use Rattle.moves.specs.Instances.{data_entry, instance_of}

-- the label costs that were named, none where none were
abbrev pub costs_or_none : Option (List ℤ) → List ℤ
costs_or_none None = []
costs_or_none (Some costs) = costs

-- the instance of a problem that a table names: the cost of each label at each site is the entry
-- there, and its cost by itself that of the list, 0 where there is none
abbrev pub instance_named : Problem → Instance
instance_named p = instance_of p.pairs p.labels (data_entry p.labels p.data_costs) p.smooth_costs
    (costs_or_none p.label_costs)
