use Rattle.std.proofs.Common.{◌≡◌, ◌≢◌, ◌<◌, ℕ, true, length, get_or}
use Rattle.label_energies.specs.Energies.{labelling}
use Rattle.site_bounds.specs.Swapped.{has_either}
use Rattle.site_bounds.proofs.label_sites.take_labels.Given as goal

abbrev pub invariant-loop-place : goal.invariant-loop-place
invariant-loop-place l = record {
  size : length l.kept ≡ length l.fn.kept;
  others : (p : ℕ) → ((k : ℕ) → k < l.place → get_or l.sites k 0 ≢ p) → get_or l.kept p 0 ≡ get_or l.fn.kept p 0;
  either : l.all ≡ true → (k : ℕ) → k < l.place → has_either l.one l.other (labelling l.at) (get_or l.sites k 0) ≡ true;
}
