use Rattle.std.proofs.Common.{◌≡◌, ℕ, ◌+◌, ◌<◌, ◌≤◌, Bool, ℤ, length, IfOk}
use Rattle.std.specs.Prelude.{slice_index_or}
use Rattle.std.specs.Result.{IsOk}
use Rattle.move_energy.specs.Choices.{choice_at}
use Rattle.persistency.specs.Agreeing.{Agree}
use Rattle.strips.specs.Parts.{ArePartCodes, OfParts, IsPartJoined, part_start}
use Rattle.strips.proofs.parts.join_parts.Given as goal

abbrev pub invariant-loop-part : goal.invariant-loop-part
invariant-loop-part l = record {
  count : length l.choices ≡ length l.fn.choices;
  later : (p : ℕ) → part_start (length l.fn.choices) l.size l.part ≤ p → choice_at l.choices p ≡ choice_at l.fn.choices p;
  whole : (i : ℕ) (part : _) → i < l.part → IsOk (slice_index_or l.parts i part);
  joined : (i : ℕ) (part : _) → i < l.part → IfOk (slice_index_or l.parts i part) (λ codes. IsPartJoined l.size l.fn.choices l.choices i codes.items);
  agree : (n : ℕ) (E : (ℕ → Bool) → ℤ) → Agree n E (choice_at l.fn.choices)
      → OfParts (λ i. ArePartCodes n E (part_start (length l.fn.choices) l.size i) (part_start (length l.fn.choices) l.size (i + 1))) l.parts
      → Agree n E (choice_at l.choices);
}
