use Rattle.std.proofs.Common.{◌≡◌, ℕ, ◌-◌, ◌<◌, ◌≤◌, length, true, slice_index}
use Rattle.pgm_image.specs.Signs.{is_space}
use Rattle.vision.proofs.inputs.past_spaces.Given as goal

abbrev pub invariant-loop-at : goal.invariant-loop-at
invariant-loop-at l = record {
  ordered : l.from ≤ l.at;
  within : l.at ≤ length l.input;
  spaces : (k : ℕ) → l.from ≤ k → k < l.at → is_space (slice_index l.input k) ≡ true;
}

abbrev pub decreases-loop-at : goal.decreases-loop-at
decreases-loop-at l = length l.input - l.at
