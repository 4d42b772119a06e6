-- What labels cost pairs and by themselves, as a run over a table of smooth costs is told.
use Rattle.std.specs.Prelude.{◌≡◌, ◌↔◌, ℕ, ◌*◌, IsTrue, length}
use Rattle.std.specs.List.{All}
use Rattle.cost_store.specs.LabelCosts.{AreLabelCosts}
use Rattle.cost_store.specs.Limits.{smooth_limit}
use Rattle.cost_store.specs.Promises.{IsCost, IsMetricTable}
use Rattle.moves.specs.declared.tables.LabelPrices.{LabelPrices}

-- the prices of so many labels: a smooth cost of each two, in its range; what is said of a metric
-- is true; and a cost of each label by itself, in its range, or none at all
pub record ArePrices (labels : ℕ) (prices : LabelPrices) : Type 0 where
  pub size : length prices.smooth.now ≡ labels * labels
  pub range : All (IsCost smooth_limit) prices.smooth.now
  pub known : IsTrue prices.by_metric ↔ IsMetricTable labels prices.smooth.now
  pub label_costs : AreLabelCosts labels prices.label_costs
