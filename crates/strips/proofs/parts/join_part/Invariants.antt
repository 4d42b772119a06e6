use Rattle.std.proofs.Common.{◌≡◌, ◌⊎◌, ℕ, ◌+◌, ◌<◌, ◌≤◌, length}
use Rattle.move_energy.specs.Choices.{choice_at}
use Rattle.strips.specs.Parts.{coded_at, known_or}
use Rattle.strips.proofs.parts.join_part.Given as goal

abbrev pub invariant-loop-place : goal.invariant-loop-place
invariant-loop-place l = record {
  count : length l.choices ≡ length l.fn.choices;
  inside : (k : ℕ) → k < l.place → choice_at l.choices (l.from + k) ≡ known_or (choice_at l.fn.choices (l.from + k)) (coded_at l.codes k);
  outside : (p : ℕ) → (p < l.from) ⊎ (l.from + l.place ≤ p) → choice_at l.choices p ≡ choice_at l.fn.choices p;
}
