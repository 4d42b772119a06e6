-- Rows of entries: a row for each site, and in it an entry for each label.
use Rattle.std.specs.Prelude.{◌≡◌, ◌⊎◌, ℕ, ◌+◌, ◌*◌, ◌^◌, ◌<◌, ◌≤◌, List, length, slice_index}
use Rattle.sums.specs.Sums.{sum_below}

-- entries stand above this, so that none has to be below 0
abbrev pub ground : ℕ
ground = 2 ^ 55

-- the entry of a label at a site
abbrev pub row_entry : ℕ → List ℕ → ℕ → ℕ → ℕ
row_entry labels rows site label = slice_index rows (site * labels + label)

-- what the entries of a labelling's labels come to together
abbrev pub entries_of : ℕ → ℕ → List ℕ → (ℕ → ℕ) → ℕ
entries_of sites labels rows g = sum_below sites (λ site. row_entry labels rows site (g site))

-- the first so many numbers are added, each to the entry as far from a place, and no other entry
-- changes
pub record AreRaised (from count : ℕ) (by old new : List ℕ) : Type 0 where
  pub size : length new ≡ length old
  pub inside : (k : ℕ) → k < count
      → slice_index new (from + k) ≡ slice_index old (from + k) + slice_index by k
  pub outside : (j : ℕ) → (j < from) ⊎ (from + count ≤ j) → slice_index new j ≡ slice_index old j

-- after so many pairs no entry is further from where it began than their messages reach
abbrev pub AreRowsInRange : ℕ → List ℕ → Type 0
AreRowsInRange count rows = (j : ℕ) → j < length rows
    → (ground ≤ slice_index rows j + count * 2 ^ 32)
    × (slice_index rows j ≤ ground + 2560000000 + count * 2 ^ 33)
