-- What a cut of all open sites shows, where some sites are fixed.
use Rattle.std.specs.Prelude.{◌≡◌, ℕ, Bool, List}
use Rattle.label_energies.specs.declared.change.Move.{Move}
use Rattle.label_energies.specs.Energies.{Instance}
use Rattle.move_energy.specs.declared.choice.Choice.{Choice}
use Rattle.move_energy.specs.Choices.{choice_at, value_of}
use Rattle.site_bounds.specs.Decisions.{IsSmallestLeast}
use Rattle.move_energy.specs.MoveValues.{move_value}
use Rattle.persistency.specs.Fixing.{with_choices, fixed_value}

-- the bits of the open sites and what is fixed are the least values of a stage: of all sites, some
-- of which are fixed, the least with the fewest ones
pub record IsStageLeast (m : Instance) (move : Move) (f : ℕ → ℕ) (choices : List Choice)
    (bits : List Bool)
    : Type 0 where
  pub values : ℕ → Bool
  pub least : IsSmallestLeast m.sites (fixed_value (move_value m move f) (choice_at choices)) values
  pub shown : (p : ℕ) → with_choices (choice_at choices) values p ≡ value_of choices bits p
