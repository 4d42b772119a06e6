use Rattle.std.proofs.Common.{ℕ, ◌≡◌, ◌<◌, cond, eqb, sum_by, slice_index}
use Rattle.node_buckets.specs.Standing.{row_count, row_in, aside, bucket_of}
use Rattle.node_buckets.proofs.buckets.Buckets.restore_aside.Given as goal

abbrev pub decreases-aside : goal.decreases-aside
decreases-aside l = sum_by (λ row. cond (eqb row l.row) 1 0) l.self.rows

abbrev pub invariant-aside : goal.invariant-aside
invariant-aside l = record {
  row : l.row ≡ aside l.self;
  buckets : l.self.buckets ≡ l.fn.self.buckets;
  size : row_count l.self ≡ row_count l.fn.self;
  back : (v : ℕ) → v < row_count l.fn.self → row_in l.fn.self v ≡ aside l.fn.self → ¬ (row_in l.self v ≡ aside l.fn.self) → row_in l.self v ≡ bucket_of l.fn.self (slice_index l.labels v);
  others : (v : ℕ) → v < row_count l.fn.self → ¬ (row_in l.fn.self v ≡ aside l.fn.self) → row_in l.self v ≡ row_in l.fn.self v;
}
