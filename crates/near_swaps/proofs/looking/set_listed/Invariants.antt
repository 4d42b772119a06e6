use Rattle.std.proofs.Common.{◌≡◌, ◌≢◌, ◌<◌, ℕ, length, get_or}
use Rattle.move_energy.specs.Choices.{choice_at}
use Rattle.near_swaps.proofs.looking.set_listed.Given as goal

abbrev pub invariant-loop-index : goal.invariant-loop-index
invariant-loop-index l = record {
  count : length l.choices.items ≡ length l.fn.choices.items;
  done : (k : ℕ) → k < l.index → choice_at l.choices.items (get_or l.sites k 0) ≡ l.choice;
  left : (p : ℕ) → ((k : ℕ) → k < l.index → get_or l.sites k 0 ≢ p) → choice_at l.choices.items p ≡ choice_at l.fn.choices.items p;
}
