use Rattle.std.proofs.Common.{◌≡◌, ◌<◌, ℕ, length}
use Rattle.std.specs.Prelude.{slice_index}
use Rattle.gco_calls.proofs.course.put_back.Given as goal

abbrev pub invariant-loop-place : goal.invariant-loop-place
invariant-loop-place l =
    (length l.to ≡ length l.initial.to) × ((i : ℕ) → i < l.place → slice_index l.to i ≡ slice_index l.numbers i)
