-- Smooth costs that are a metric, whatever the number of labels.
use Rattle.std.specs.Prelude.{ℕ, ℤ, List, ◌==◌, ◌-◌, ◌<◌, ◌≤◌, min, max, if◌then◌else◌}
use Rattle.label_field.specs.Grids.{distance}
use Rattle.label_energies.specs.Energies.{IsMetric, IsRatio}
use Rattle.cost_store.specs.Promises.{IsTable, IsMetricTable}

-- the Potts model: two unequal labels cost 1
abbrev pub potts : ℕ → ℕ → ℕ
potts a b = if a == b then 0 else 1

-- truncated linear costs: two labels cost how far they are apart, and never more than `most`
abbrev pub linear : ℕ → ℕ → ℕ → ℕ
linear most a b = min (distance a b) most

-- the costs of k labels are a metric, whose least and greatest costs of two unequal labels are
-- these
pub record IsMetricOfRatio (k : ℕ) (cost : ℕ → ℕ → ℕ) (least greatest : ℕ) : Type 0 where
  pub metric : IsMetric k cost
  pub ratio : IsRatio k cost least greatest

-- Potts costs are a metric
abbrev pub PottsIsMetric : Type 0
PottsIsMetric = (k : ℕ) → IsMetricOfRatio k potts 1 1

-- truncated linear costs are a metric, whatever they are cut off at, from 1 on
abbrev pub LinearIsMetric : Type 0
LinearIsMetric = (k most : ℕ) → 1 ≤ most
    → IsMetricOfRatio k (linear most) 1 (max 1 (min (k - 1) most))

-- the table of costs that are a metric is one that `is_metric` says yes of
abbrev pub MetricHasMetricTable : Type 0
MetricHasMetricTable =
    (k : ℕ) (cost : ℕ → ℕ → ℕ) (table : List ℤ) → 0 < k → IsTable k k cost table → IsMetric k cost
    → IsMetricTable k table
