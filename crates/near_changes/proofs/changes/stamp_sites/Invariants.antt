use Rattle.std.proofs.Common.{◌≡◌, ◌≢◌, ℕ, ◌<◌, length, get_or}
use Rattle.std.specs.Prelude.{slice_index}
use Rattle.near_changes.proofs.changes.stamp_sites.Given as goal

abbrev pub invariant-loop-index : goal.invariant-loop-index
invariant-loop-index l = record {
  done : (k : ℕ) → k < l.index → get_or l.sites k 0 < length l.stamps → slice_index l.stamps (get_or l.sites k 0) ≡ l.number;
  left : (p : ℕ) → ((k : ℕ) → k < l.index → get_or l.sites k 0 ≢ p) → slice_index l.stamps p ≡ slice_index l.fn.stamps p;
}
