-- What each problem that is read keeps.
use Rattle.std.specs.Prelude.{◌≡◌, ℕ, ◌*◌, ◌≤◌, false, List, length, All, ℤ}
use Rattle.label_field.specs.LabelFields.{AreSizes}
use Rattle.run_options.specs.Limits.{IsSmoothCost, cycle_limit, greatest_data_cost}
use Rattle.problem_files.specs.LabelCostFields.{AreCostsOfLabels}
use Rattle.problem_files.specs.Names.{Problem}

-- the costs of a problem of these sizes, in their limits
pub record AreCostsInLimits (sites labels : ℕ) (data_costs : List ℕ)
    (smooth_costs : List ℤ) : Type 0 where
  pub data_count : length data_costs ≡ sites * labels
  pub data_most : All (λ cost. cost ≤ greatest_data_cost) data_costs
  pub smooth_count : length smooth_costs ≡ labels * labels
  pub smooth_most : All IsSmoothCost smooth_costs

-- the sizes agree, and the numbers are in their limits
pub record IsInLimits (p : Problem) : Type 0 where
  pub sizes : AreSizes p.sites p.labels
  pub data_count : length p.data_costs ≡ p.sites * p.labels
  pub data_most : All (λ cost. cost ≤ greatest_data_cost) p.data_costs
  pub smooth_count : length p.smooth_costs ≡ p.labels * p.labels
  pub smooth_most : All IsSmoothCost p.smooth_costs
  pub pair_sites : p.pairs.sites ≡ p.sites
  pub weighted : p.pairs.numbered ≡ false
  pub start_sites : length p.start.at ≡ p.sites
  pub start_labels : p.start.labels ≡ p.labels
  pub cycles_most : p.cycles ≤ cycle_limit
  pub label_costs : AreCostsOfLabels p.labels p.label_costs
