-- What the labels that are kept say of an expansion.
use Rattle.std.specs.Prelude.{◌≡◌, ◌==◌, ◌&&◌, ℕ, ◌<◌, Bool, true, false, not, pos, ◌+ℤ◌, ◌≤ℤ◌}
use Rattle.label_energies.specs.declared.change.Move.TheVariants.{Expand}
use Rattle.label_energies.specs.Energies.{Instance, IsInstance}
use Rattle.label_energies.specs.Moves.{IsAllowed}
use Rattle.move_energy.specs.MoveValues.{move_value}
use Rattle.site_bounds.specs.Decisions.{IsSmallestLeast}
use Rattle.kept_labels.specs.Kept.{IsKeptLabel, AreLabelsKept, IsWorthIt, expanded_value}

-- where all sites of a kept label take a, they had better not: that saves at least what the label
-- costs by itself
abbrev pub KeptIsNotGivenUp : Type 0
KeptIsNotGivenUp =
    (m : Instance) (a label : ℕ) (f : ℕ → ℕ) (y : ℕ → Bool)
    → IsInstance m → IsAllowed m (Expand a) f → IsKeptLabel m a f label
    → ((p : ℕ) → p < m.sites → f p ≡ label → y p ≡ true)
    → (move_value m (Expand a) f (λ p. y p && not (f p == label)) +ℤ pos (m.label_cost label))
    ≤ℤ move_value m (Expand a) f y

-- if all are kept, the least values without label costs, with the fewest ones, are those with label
-- costs if they are worth it; else no site takes a
abbrev pub KeptIsPlain : Type 0
KeptIsPlain =
    (m : Instance) (a : ℕ) (f : ℕ → ℕ) (x : ℕ → Bool)
    → IsInstance m → a < m.labels → IsAllowed m (Expand a) f → AreLabelsKept m a f
    → IsSmallestLeast m.sites (move_value m (Expand a) f) x
    → (IsWorthIt m a f x → IsSmallestLeast m.sites (expanded_value m a f) x)
    × (¬ IsWorthIt m a f x → IsSmallestLeast m.sites (expanded_value m a f) (λ p. false))
