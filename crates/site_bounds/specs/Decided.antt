-- What deciding answers.
use Rattle.std.specs.Prelude.{◌≡◌, ℕ, ◌<◌, ◌≤◌, Bool, List, length, Result, Ok, Err}
use Rattle.compile_cut.specs.Weights.{weights_size}
use Rattle.label_energies.specs.declared.change.Move.{Move}
use Rattle.label_energies.specs.Energies.{Instance, labelling}
use Rattle.label_energies.specs.Moves.{IsAllowed}
use Rattle.move_energy.specs.declared.choice.Choice.{Choice}
use Rattle.move_energy.specs.declared.choice.Choice.TheVariants.{Open}
use Rattle.move_energy.specs.declared.error.BuildError.{BuildError}
use Rattle.move_energy.specs.Choices.{bit_of, choice_at}
use Rattle.move_energy.specs.Limits.{weights_limit}
use Rattle.move_energy.specs.Weights.{open_weights}
use Rattle.move_energy.specs.Problems.{IsPrepareRefusal}
use Rattle.site_bounds.specs.declared.sites.Deciding.{Deciding}
use Rattle.site_bounds.specs.Decisions.{Decision, with_decisions, Passes, HavePassed}
use Rattle.site_bounds.specs.Listed.{AreListed}
use Rattle.move_energy.specs.MoveValues.{move_value}
use Rattle.site_bounds.specs.Working.{AreOfSites}

-- the sites were decided one after another, each by the test, and none that is open passes it
pub record AreDecided (m : Instance) (move : Move) (f : ℕ → ℕ) (choice : ℕ → Choice) : Type 0 where
  pub decisions : List Decision
  pub passed : HavePassed (move_value m move f) decisions
  pub shown : (x : ℕ → Bool) (p : ℕ) → p < m.sites
      → with_decisions decisions x p ≡ bit_of (choice p) (x p)
  pub none_left : (p : ℕ) (b : Bool) → p < m.sites → choice p ≡ Open
      → ¬ Passes (move_value m move f) decisions p b

-- what the deciding of a move from f answers: each pair's term is regular, and the sites are
-- decided; or the first pair whose term is not regular; or memory was refused
abbrev pub IsDecidedMove : Instance → Move → List ℕ → List Choice → Result Unit BuildError → Type 0
IsDecidedMove m move f choices (Ok done) =
    IsAllowed m move (labelling f) × AreDecided m move (labelling f) (choice_at choices)
IsDecidedMove m move f choices (Err e) = IsPrepareRefusal m move (labelling f) e

-- what deciding leaves where it refuses nothing: a choice and two bounds of each site, the greatest
-- ones of the open sites in their limit together, and the lists of the sites
pub record KnowsSites (move : Move) (f : List ℕ) (room : Deciding) : Type 0 where
  pub sized : AreOfSites (length f) room.bounds
  pub small : weights_size (open_weights room.bounds.choices.items room.bounds.greatest.items
      (length f)) ≤ weights_limit
  pub listed : AreListed move (labelling f) room.bounds.choices.items room.lists
