-- Bounds from below of the energies of all labellings.
use Rattle.std.specs.Prelude.{ℕ, ℤ, pos, ◌+◌, ◌*◌, ◌<◌, ◌≤◌, ◌≤ℤ◌, List, slice_index, take}
use Rattle.std.specs.List.{sum_by}
use Rattle.label_energies.specs.Energies.{Instance, IsLabelled, energy, data_energy, pair_cost}
use Rattle.message_bound.specs.Rows.{ground, entries_of}
use Rattle.message_bound.specs.Costs.{parts}

-- no labelling of the problem has an energy below the number
abbrev pub IsLowerBound : Instance → ℤ → Type 0
IsLowerBound m low = (g : ℕ → ℕ) → IsLabelled m g → low ≤ℤ pos (energy m g)

-- the labelling has at each site a label that costs the site least
abbrev pub IsCheapest : Instance → (ℕ → ℕ) → Type 0
IsCheapest m h = (p l : ℕ) → p < m.sites → l < m.labels → m.data_cost p (h p) ≤ m.data_cost p l

-- what is added at a label of the one site, and given at one of the other, is paid: by what is
-- taken off at that label of the other and what the two labels cost the pair, in parts
abbrev pub ArePaid : ℕ → (ℕ → ℕ → ℕ) → List ℕ → List ℕ → List ℕ → Type 0
ArePaid labels cost added taken given = (a b : ℕ) → a < labels → b < labels
    → slice_index added b + slice_index given a ≤ slice_index taken a + cost a b

-- what is added at a label of the one site is paid by what is taken off at each of the other and
-- what the two labels cost the pair
abbrev pub AreTakenOff : ℕ → (ℕ → ℕ → ℕ) → List ℕ → List ℕ → Type 0
AreTakenOff labels cost added taken = (a b : ℕ) → a < labels → b < labels
    → slice_index added b ≤ slice_index taken a + cost a b

-- the rows are under the energy with the first so many pairs counted in: the entries of a
-- labelling's labels are together at most what its labels cost the sites and those pairs
abbrev pub AreUnder : Instance → ℕ → List ℕ → Type 0
AreUnder m count rows = (g : ℕ → ℕ) → IsLabelled m g
    → entries_of m.sites m.labels rows g
    ≤ m.sites * ground + parts * (data_energy m g + sum_by (pair_cost m g) (take count m.pairs))
