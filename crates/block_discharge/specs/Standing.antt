-- A block whose active nodes stand in buckets by their labels.
use Rattle.std.specs.Prelude.{◌≡◌, ℕ, ◌+◌, ◌<◌, ◌≤◌, min, cond, nat_lt, sum_by}
use Rattle.node_buckets.specs.Standing.{BucketsView, row_count, row_in, aside, nowhere, bucket_of}
use Rattle.block_net.specs.Views.{CellsView, count, label_in}
use Rattle.block_discharge.specs.Active.{IsActiveInBlock}

-- a block, and where its nodes stand
pub record BucketedView : Type 0 where
  pub block : CellsView
  pub standing : BucketsView

-- the node is set aside
abbrev pub IsAside : BucketedView → ℕ → Type 0
IsAside b v = row_in b.standing v ≡ aside b.standing

-- how many nodes stand in a bucket
abbrev pub waiting_count : BucketedView → ℕ
waiting_count b = sum_by (λ row. cond (nat_lt row b.standing.buckets) 1 0) b.standing.rows

-- the number of a node's bucket: its label, up to one more than there are nodes
abbrev pub bucket_in : CellsView → ℕ → ℕ
bucket_in b v = min (label_in b v) (count b + 1)

-- no active node that is not aside has a higher bucket
abbrev pub HasHighestBucket : BucketedView → ℕ → Type 0
HasHighestBucket b v =
    (u : ℕ) → IsActiveInBlock b.block u → ¬ IsAside b u → bucket_in b.block u ≤ bucket_in b.block v

-- the node stands nowhere, aside or in the bucket of its label
pub data MayStand (b : CellsView) (s : BucketsView) (v : ℕ) : Type 0 where
  Nowhere : row_in s v ≡ nowhere s → MayStand b s v
  Aside : row_in s v ≡ aside s → MayStand b s v
  InBucket : row_in s v ≡ bucket_of s (label_in b v) → MayStand b s v

-- the node stands somewhere exactly where it is active
pub record IsRight (b : CellsView) (s : BucketsView) (v : ℕ) : Type 0 where
  pub active : IsActiveInBlock b v → ¬ (row_in s v ≡ nowhere s)
  pub others : ¬ IsActiveInBlock b v → row_in s v ≡ nowhere s

-- there are as many nodes as in the block, and two buckets more
pub record IsFit (b : CellsView) (s : BucketsView) : Type 0 where
  pub nodes_same : row_count s ≡ count b
  pub buckets : s.buckets ≡ count b + 2

-- each active node stands in the bucket of its label or aside, and no other node stands anywhere
pub record IsStanding (b : CellsView) (s : BucketsView) : Type 0 where
  pub fit : IsFit b s
  pub places : (v : ℕ) → v < count b → MayStand b s v
  pub right : (v : ℕ) → v < count b → IsRight b s v

-- no node is aside that was not
abbrev pub KeepsAside : BucketedView → BucketedView → Type 0
KeepsAside old new = (v : ℕ) → IsAside new v → IsAside old v

-- each active node that was aside still is
abbrev pub StaysAside : BucketedView → BucketedView → Type 0
StaysAside old new = (v : ℕ) → IsAside old v → IsActiveInBlock new.block v → IsAside new v

-- a node's row was made right, and no other's changed
pub record IsRenewed (b : CellsView) (v : ℕ) (old new : BucketsView) : Type 0 where
  pub same_nodes : row_count new ≡ row_count old
  pub same_buckets : new.buckets ≡ old.buckets
  pub rows : (u : ℕ) → ¬ (u ≡ v) → row_in new u ≡ row_in old u
  pub may : MayStand b new v
  pub right : IsRight b new v
  pub still : row_in new v ≡ aside new → row_in old v ≡ aside old
  pub stays : row_in old v ≡ aside old → IsActiveInBlock b v → row_in new v ≡ aside new
