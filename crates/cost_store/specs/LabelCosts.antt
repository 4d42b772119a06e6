-- What labels cost by themselves.
use Rattle.std.specs.Prelude.{◌≡◌, ◌<◌, ℕ, Bool, false, List, [], length, Option, Some, None, ℤ}
use Rattle.std.specs.Prelude.{pos, unsigned_abs, slice_index_or}
use Rattle.std.specs.List.{All}
use Rattle.std.specs.Global.{Vec}
use Rattle.label_field.specs.Limits.{label_limit}
use Rattle.label_energies.specs.Energies.{Instance, is_used}
use Rattle.cost_store.specs.Limits.{label_cost_limit}
use Rattle.cost_store.specs.Promises.{IsCost, IsFirstOutside}
use Rattle.cost_store.specs.declared.error.CostError.TheVariants.{CostRange as AtPlace}
use Rattle.cost_store.specs.declared.error.LabelCostError.{LabelCostError}
use Rattle.cost_store.specs.declared.error.LabelCostError.TheVariants.{CostRange, OutOfMemory}

-- what a label costs by itself
abbrev pub cost_at : List ℤ → ℕ → ℕ
cost_at costs label = unsigned_abs (slice_index_or costs label (pos 0))

-- the costs that were set, none where none were
abbrev pub costs_of : Option (Vec ℤ) → List ℤ
costs_of None = []
costs_of (Some costs) = costs.items

-- as many as labels, each in its range
abbrev pub AreCosts : ℕ → List ℤ → Type 0
AreCosts labels costs = (length costs ≡ labels) × All (IsCost (pos label_cost_limit)) costs

-- so they are, where they were set
abbrev pub AreLabelCosts : ℕ → Option (Vec ℤ) → Type 0
AreLabelCosts labels None = Unit {0}
AreLabelCosts labels (Some costs) = AreCosts labels costs.items

-- the problem's label costs are these, 0 where none were set
pub record HasCosts (m : Instance) (costs : Option (Vec ℤ)) : Type 0 where
  pub each : (label : ℕ) → label < m.labels → m.label_cost label ≡ cost_at (costs_of costs) label

-- some label costs something
abbrev pub AreCostly : List ℤ → Type 0
AreCostly costs = (label : ℕ) × (0 < cost_at costs label)

-- none does
abbrev pub AreFree : List ℤ → Type 0
AreFree costs = (label : ℕ) → cost_at costs label ≡ 0

-- of each label that there can be the mark says whether one of the first n sites has it
pub record AreLabelMarks (n : ℕ) (f : ℕ → ℕ) (marks : List Bool) : Type 0 where
  pub size : length marks ≡ label_limit
  pub each : (label : ℕ) → label < label_limit
      → slice_index_or marks label false ≡ is_used n f label

-- why costs were not set: the first label whose cost is out of range, or memory was refused
abbrev pub IsSetRefusal : List ℤ → LabelCostError → Type 0
IsSetRefusal costs (CostRange label) = IsFirstOutside (pos label_cost_limit) costs (AtPlace label)
IsSetRefusal costs OutOfMemory = All (IsCost (pos label_cost_limit)) costs
