-- The sites that a move can change.
use Rattle.std.specs.Prelude.{◌==◌, ◌||◌, ◌≡◌, ◌≢◌, ◌<◌, ℕ, Bool, true, false, not, List, length}
use Rattle.std.specs.Prelude.{slice_index}
use Rattle.label_energies.specs.declared.change.Move.{Move}
use Rattle.label_energies.specs.Moves.{label_after}
use Rattle.move_energy.specs.declared.choice.Choice.{Choice}
use Rattle.move_energy.specs.declared.choice.Choice.TheVariants.{Open}
use Rattle.move_energy.specs.Choices.{choice_at}

-- do the two values of a site's variable make two labels?
abbrev pub can_turn : Move → (ℕ → ℕ) → ℕ → Bool
can_turn move f p = not (label_after move (f p) true == label_after move (f p) false)

-- has a site one of two labels?
abbrev pub has_either : ℕ → ℕ → (ℕ → ℕ) → ℕ → Bool
has_either one other f p = (f p == one) || (f p == other)

-- these sites are open, and what is known of the others is as before
pub record OpensSites (sites : List ℕ) (old new : List Choice) : Type 0 where
  pub count : length new ≡ length old
  pub opened : (k : ℕ) → k < length sites → choice_at new (slice_index sites k) ≡ Open
  pub others : (p : ℕ) → ((k : ℕ) → k < length sites → slice_index sites k ≢ p)
      → choice_at new p ≡ choice_at old p
