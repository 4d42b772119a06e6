use Rattle.std.proofs.Common.{◌≡◌, ◌<◌, ℕ, slice_index}
use Rattle.plain_cut.proofs.both.are_none.Given as goal

abbrev pub invariant-places : goal.invariant-places
invariant-places l = (v : ℕ) → v < l.v → slice_index l.more v ≡ 0
