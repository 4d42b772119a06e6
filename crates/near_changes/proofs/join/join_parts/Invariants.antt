use Rattle.std.proofs.Common.{◌≡◌, ℕ, length}
use Rattle.label_energies.specs.declared.change.Move.{Move}
use Rattle.label_energies.specs.Energies.{Instance}
use Rattle.move_energy.specs.Choices.{choice_at}
use Rattle.strips.specs.Parts.{OfParts}
use Rattle.near_changes.specs.SideBySide.{AreZerosOf, AreZeroCodes, seen_start}
use Rattle.near_changes.proofs.join.join_parts.Given as goal

abbrev pub invariant-loop-part : goal.invariant-loop-part
invariant-loop-part l = record {
  count : length l.choices.items ≡ length l.fn.choices.items;
  zeros : (m : Instance) (move : Move) (f : ℕ → ℕ) → m.sites ≡ length l.fn.choices.items → AreZerosOf m move f (choice_at l.fn.choices.items)
      → OfParts (λ i. AreZeroCodes m move f (seen_start (length l.fn.choices.items) l.sizes i)) l.parts
      → AreZerosOf m move f (choice_at l.choices.items);
}
