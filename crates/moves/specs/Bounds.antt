-- What is known of a problem that has a bound.
use Rattle.std.specs.Prelude.{ℕ, List}
use Rattle.label_energies.specs.Energies.{Instance, HasMetric, IsRatio, AreLabelsFree}
use Rattle.label_energies.specs.Laws.{IsWithinTwice}
use Rattle.moves.specs.declared.bound.Bound.{Bound}

-- the smooth costs are a metric, these are the least and the greatest of two unequal labels, and no
-- label costs anything by itself
pub record IsBoundOf (m : Instance) (bound : Bound) : Type 0 where
  pub metric : HasMetric m
  pub ratio : IsRatio m.labels metric.table bound.vmin bound.vmax
  pub free : AreLabelsFree m

-- labels that are within each bound of the problem: `vmin` times their energy is at most twice
-- `vmax` times that of any labelling (Boykov, Veksler, Zabih, PAMI 2001, theorem 6.1)
abbrev pub IsWithinBound : Instance → List ℕ → Type 0
IsWithinBound m g = (bound : Bound) → IsBoundOf m bound → IsWithinTwice m bound.vmin bound.vmax g
