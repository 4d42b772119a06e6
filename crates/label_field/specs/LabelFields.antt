use Rattle.std.specs.Prelude.{ℕ, ◌<◌, ◌≤◌, List, length}
use Rattle.std.specs.List.{All}
use Rattle.label_field.specs.Limits.{site_limit, label_limit}

-- how many labels there are, and the label of each site
pub record LabelField : Type 0 where
  pub labels : ℕ
  pub at : List ℕ

-- numbers of sites and labels in their limits
abbrev pub AreSizes : ℕ → ℕ → Type 0
AreSizes sites labels = (sites ≤ site_limit) × (1 ≤ labels) × (labels ≤ label_limit)

-- the sizes are in their limits, and each site has one of the labels
pub record IsLabelField (field : LabelField) : Type 0 where
  pub sizes : AreSizes (length field.at) field.labels
  pub below : All (λ label. label < field.labels) field.at
