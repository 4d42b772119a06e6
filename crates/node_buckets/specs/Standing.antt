-- Nodes that stand in buckets, each in one row.
use Rattle.std.specs.Prelude.{◌≡◌, ℕ, ◌+◌, ◌-◌, ◌^◌, ◌<◌, ◌≤◌, min, List, length, replicate}
use Rattle.std.specs.Prelude.{slice_index, slice_index_or, slice_set}
use Rattle.node_buckets.specs.Circles.{AreCircles}

-- how many buckets there are, and the row of each node: that of its bucket, after those the row of
-- the nodes that are set aside, and after that one where a node stands nowhere
pub record BucketsView : Type 0 where
  pub buckets : ℕ
  pub rows : List ℕ

abbrev pub row_count : BucketsView → ℕ
row_count s = length s.rows

abbrev pub row_in : BucketsView → ℕ → ℕ
row_in s v = slice_index s.rows v

-- the row of the nodes that are set aside
abbrev pub aside : BucketsView → ℕ
aside s = s.buckets

-- what stands for a row where a node stands nowhere
abbrev pub nowhere : BucketsView → ℕ
nowhere s = s.buckets + 1

-- the bucket of a label: the last one has all labels from its number on
abbrev pub bucket_of : BucketsView → ℕ → ℕ
bucket_of s label = min label (s.buckets - 1)

-- a node goes to a row
abbrev pub with_node_in_row : BucketsView → ℕ → ℕ → BucketsView
with_node_in_row s v row = record s { rows = slice_set s.rows v row }

-- nodes stand nowhere
abbrev pub without_nodes : BucketsView → BucketsView
without_nodes s = record s { rows = replicate (length s.rows) (nowhere s) }

-- no node stands in the row
abbrev pub IsEmpty : BucketsView → ℕ → Type 0
IsEmpty s row = (v : ℕ) → v < row_count s → ¬ (row_in s v ≡ row)

-- the node stands in a bucket, and none in a higher one
pub record IsHighest (s : BucketsView) (v : ℕ) : Type 0 where
  pub node : v < row_count s
  pub bucket : row_in s v < s.buckets
  pub highest : (u : ℕ) → u < row_count s → row_in s u < s.buckets → row_in s u ≤ row_in s v

-- no node stands in a bucket
abbrev pub AreBucketsEmpty : BucketsView → Type 0
AreBucketsEmpty s = (v : ℕ) → v < row_count s → s.buckets ≤ row_in s v

-- each node that was set aside stands in the bucket of its label, and each other where it stood
pub record IsRestored (labels : List ℕ) (old new : BucketsView) : Type 0 where
  pub same_buckets : new.buckets ≡ old.buckets
  pub same_nodes : row_count new ≡ row_count old
  pub back : (v : ℕ) → v < row_count old → row_in old v ≡ aside old
      → row_in new v ≡ bucket_of old (slice_index labels v)
  pub others : (v : ℕ) → v < row_count old → ¬ (row_in old v ≡ aside old)
      → row_in new v ≡ row_in old v

-- ---- how it is held

-- the row of a place: a node's, or for a place after those of the nodes the row that begins and
-- ends there
abbrev pub row_at : List ℕ → ℕ → ℕ
row_at rows x = slice_index_or rows x (x - length rows)

-- the nodes of a row stand in one circle with the place of the row, and the ranks of those before a
-- node fall until that place; a node that stands nowhere is alone; no node stands in a bucket above
-- `top`
pub record AreRows (top buckets : ℕ) (rows next prev : List ℕ) : Type 0 where
  pub small : length rows + buckets + 1 < 2 ^ 32
  pub top_in : top < buckets
  pub size : length next ≡ length rows + buckets + 1
  pub circles : AreCircles next prev
  pub limit : (v : ℕ) → v < length rows → slice_index rows v ≤ buckets + 1
  pub same : (x : ℕ) → x < length next → row_at rows (slice_index prev x) ≡ row_at rows x
  pub alone : (v : ℕ) → v < length rows → slice_index rows v ≡ buckets + 1 → slice_index prev v ≡ v
  pub ranks : (rank : ℕ → ℕ)
      × ((v : ℕ) → v < length rows → slice_index rows v ≤ buckets
      → rank (slice_index prev v) < rank v)
  pub below : (v : ℕ) → v < length rows → slice_index rows v < buckets → slice_index rows v ≤ top
