-- The least and the greatest cost of two unequal labels, as they are found.
use Rattle.std.specs.Prelude.{◌≡◌, ◌≢◌, ◌⊎◌, ℕ, ◌<◌, ◌≤◌}
use Rattle.cost_store.specs.declared.ratio.Ratio.{Ratio}

-- the costs of unequal labels in the rows before one, and in this row in the columns before one,
-- lie between the two numbers, and each of the two is such a cost
pub record IsRatioSoFar (k : ℕ) (cost : ℕ → ℕ → ℕ) (row column : ℕ) (ratio : Ratio) : Type 0 where
  pub ordered : ratio.least ≤ ratio.greatest
  pub rows : (a b : ℕ) → a < row → b < k → a ≢ b
      → (ratio.least ≤ cost a b) × (cost a b ≤ ratio.greatest)
  pub here : (b : ℕ) → b < column → row ≢ b
      → (ratio.least ≤ cost row b) × (cost row b ≤ ratio.greatest)
  pub least_met : (a : ℕ) × (b : ℕ) × (a < k) × (b < k) × (a ≢ b) × (cost a b ≡ ratio.least)
  pub greatest_met : (a : ℕ) × (b : ℕ) × (a < k) × (b < k) × (a ≢ b) × (cost a b ≡ ratio.greatest)

-- the two numbers with one cost more
pub record IsWithCost (old new : Ratio) (cost : ℕ) : Type 0 where
  pub least_is : (new.least ≡ old.least) ⊎ (new.least ≡ cost)
  pub least_old : new.least ≤ old.least
  pub least_new : new.least ≤ cost
  pub greatest_is : (new.greatest ≡ old.greatest) ⊎ (new.greatest ≡ cost)
  pub greatest_old : old.greatest ≤ new.greatest
  pub greatest_new : cost ≤ new.greatest
