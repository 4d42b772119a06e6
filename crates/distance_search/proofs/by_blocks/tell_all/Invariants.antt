use Rattle.std.specs.Prelude.{◌≡◌, ℕ, ◌<◌, IsFalse, length, slice_index_or}
use Rattle.distance_search.specs.declared.by_blocks.Share.{Share}
use Rattle.distance_search.proofs.by_blocks.tell_all.Given as goal

abbrev pub invariant-each : goal.invariant-each
invariant-each l = record {
  len : length l.labels ≡ length l.fn.labels;
  quiet : IsFalse l.has_news → (b : ℕ) (d : Share) → b < l.b → IsFalse (slice_index_or l.shares b d).has_news;
  same : IsFalse l.has_news → l.labels ≡ l.fn.labels;
}
