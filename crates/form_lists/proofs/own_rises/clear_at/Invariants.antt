use Rattle.std.proofs.Common.{◌≡◌, ℕ, pos, length}
use Rattle.site_forms.specs.Fields.{own_at}
use Rattle.form_lists.proofs.Clearing.{IsOffFrom}
use Rattle.form_lists.proofs.own_rises.clear_at.Given as goal

abbrev pub invariant-loop-place : goal.invariant-loop-place
invariant-loop-place l = record {
  count : length l.rises ≡ length l.fn.rises;
  zeros : (u : ℕ) → IsOffFrom l.place l.sites u → own_at l.rises u ≡ pos 0;
}
