use Rattle.std.proofs.Common.{◌≡◌, ◌<◌, ℕ, slice_index_or, length}
use Rattle.cut_ways.proofs.fork.do_parts_in_order.Given as goal

abbrev pub invariant-loop-part : goal.invariant-loop-part
invariant-loop-part g l = record {
  count : length l.parts.items ≡ l.part;
  each : (i : ℕ) (d : _) → i < l.part → (goal.Fn-dyn g).post l.work.now (i, tt) (slice_index_or l.parts.items i d);
}
