-- What one move answers.
use Rattle.std.specs.Prelude.{◌≡◌, ℕ, List, pos, Result, Ok, Err}
use Rattle.label_energies.specs.declared.change.Move.{Move}
use Rattle.label_energies.specs.Energies.{Instance, labelling, data_energy, smooth_energy}
use Rattle.label_energies.specs.Energies.{label_energy}
use Rattle.one_move.specs.Moved.{IsMoved, IsCauseOfRefusal}
use Rattle.one_move.specs.declared.error.MoveError.{MoveError}
use Rattle.gco_calls.specs.declared.moving.Moved.{Moved}

-- where one move from a labelling ended, and the three parts of the energy there; or its refusal
abbrev pub IsMovedTo : Instance → Move → List ℕ → Result Moved MoveError → Type 0
IsMovedTo m move start (Ok moved) =
    IsMoved m move start moved.labelling.at (Ok moved.changed)
    × (moved.«data» ≡ pos (data_energy m (labelling moved.labelling.at)))
    × (moved.smooth ≡ pos (smooth_energy m (labelling moved.labelling.at)))
    × (moved.label ≡ pos (label_energy m (labelling moved.labelling.at)))
IsMovedTo m move start (Err e) = IsCauseOfRefusal m move start e
