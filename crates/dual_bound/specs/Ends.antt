-- The ends of pairs by their sites.
use Rattle.std.specs.Prelude.{◌≡◌, ℕ, ◌+◌, ◌*◌, ◌<◌, ◌≤◌, length}
use Rattle.counting_sort.specs.declared.Groups.{Groups}
use Rattle.counting_sort.specs.Grouping.{start_of, place_at}
use Rattle.label_field.specs.PairLists.{PairList}

-- each site has its part of the places, in which ends of pairs stand, two of each pair
pub record ArePairEnds (pairs : PairList) (ends : Groups) : Type 0 where
  pub starts : length ends.starts.items ≡ pairs.sites + 1
  pub within : (v : ℕ) → v ≤ pairs.sites → start_of ends v ≤ length ends.places.items
  pub places : (v p : ℕ) → v < pairs.sites → start_of ends v ≤ p → p < start_of ends (v + 1)
      → place_at ends p < 2 * length pairs.list
