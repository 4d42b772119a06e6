use Rattle.std.proofs.Common.{◌≡◌, ◌+◌, ◌<◌, ◌≤◌, ℕ, length, slice_index}
use Rattle.plain_cut.proofs.both.add_each.Given as goal

abbrev pub invariant-places : goal.invariant-places
invariant-places l = record {
  len : length l.numbers ≡ length l.more;
  done : (v : ℕ) → v < l.v → slice_index l.numbers v ≡ slice_index l.initial.numbers v + slice_index l.more v;
  left : (v : ℕ) → l.v ≤ v → slice_index l.numbers v ≡ slice_index l.initial.numbers v;
}
