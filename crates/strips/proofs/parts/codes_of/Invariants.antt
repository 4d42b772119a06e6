use Rattle.std.proofs.Common.{◌≡◌, ℕ, ◌+◌, ◌-◌, ◌<◌, length}
use Rattle.move_energy.specs.Choices.{choice_at}
use Rattle.strips.specs.Parts.{coded_at}
use Rattle.strips.proofs.parts.codes_of.Given as goal

abbrev pub invariant-loop-site : goal.invariant-loop-site
invariant-loop-site l = record {
  count : length l.codes.items ≡ l.site - l.from;
  each : (k : ℕ) → k < l.site - l.from → coded_at l.codes.items k ≡ choice_at l.known (l.from + k);
}
