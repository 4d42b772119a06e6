use Rattle.std.proofs.Common.{ℕ, ◌≡◌, ◌+◌, ◌<◌, ◌≤◌}
use Rattle.node_buckets.specs.Standing.{row_count, row_in}
use Rattle.node_buckets.proofs.buckets.Buckets.highest.Given as goal

abbrev pub invariant-buckets : goal.invariant-buckets
invariant-buckets l = record {
  same : l.self ≡ l.fn.self;
  top : l.top < l.self.buckets;
  below : (v : ℕ) → v < row_count l.self → row_in l.self v < l.self.buckets → row_in l.self v + l.step ≤ l.top;
}
