-- What a stretch of a run answers.
use Rattle.std.specs.Prelude.{◌≡◌, ◌+◌, ◌<◌, ℕ, ℤ, List, length, All, pos, Option, Some, None}
use Rattle.std.specs.Prelude.{Result}
use Rattle.std.specs.Prelude.{Ok, Err}
use Rattle.label_field.specs.LabelFields.{LabelField}
use Rattle.label_energies.specs.declared.cycles.Moves.{Moves}
use Rattle.label_energies.specs.Energies.{Instance, labelling, data_energy, smooth_energy}
use Rattle.label_energies.specs.Energies.{label_energy}
use Rattle.label_energies.specs.Chains.{moves_of}
use Rattle.one_move.specs.declared.error.MoveError.{MoveError}
use Rattle.moves.specs.declared.stretch.Pause.{Pause}
use Rattle.moves.specs.declared.stretch.Stretch.{Stretch}
use Rattle.moves.specs.declared.stretch.Stretch.TheVariants.{Over, Paused}
use Rattle.run_steps.specs.declared.bookmark.Mark.{Mark}
use Rattle.run_steps.specs.Bookmarks.{LeadAtMost, WasLeftAt, moves_to}
use Rattle.run_steps.specs.Courses.{IsBegun}
use Rattle.moves.specs.Runs.{AnswersRun, MayMake}

-- these are the three parts of the energy of the labels
abbrev pub TellsParts : Instance → List ℕ → ℤ → ℤ → ℤ → Type 0
TellsParts m labels data_part smooth_part label_part =
    (data_part ≡ pos (data_energy m (labelling labels)))
    × (smooth_part ≡ pos (smooth_energy m (labelling labels)))
    × (label_part ≡ pos (label_energy m (labelling labels)))

-- the labels of a stretch have the sizes of those before it, and each is below their number
pub record IsSizedAs (start field : LabelField) : Type 0 where
  pub labels_are : field.labels ≡ start.labels
  pub sites_are : length field.at ≡ length start.at
  pub below : All (λ label. label < field.labels) field.at

abbrev pub HasSizesOf : LabelField → Stretch → Type 0
HasSizesOf start (Over run) = IsSizedAs start run.labelling
HasSizesOf start (Paused pause) = IsSizedAs start pause.labelling

-- a run from a start was left at the labels, where a beginning of its chain ends, so many moves
-- further than the mark, with the three parts of the energy there
pub record IsPauseOf (m : Instance) (kind : Moves) (cycles : ℕ) (start : List ℕ) (mark : Mark)
    (most : ℕ) (pause : Pause) : Type 0 where
  pub left : WasLeftAt m kind start pause.labelling.at pause.bookmark.mark
      pause.bookmark.stamps.items pause.bookmark.made.items
  pub begun : IsBegun m (moves_of kind m.labels) cycles pause.bookmark.mark.cycles start
      pause.labelling.at
  pub further : moves_to (moves_of kind m.labels) pause.bookmark.mark
      ≡ moves_to (moves_of kind m.labels) mark + most
  pub may : MayMake m kind
  pub parts : TellsParts m pause.labelling.at pause.«data» pause.smooth pause.label

-- where the run ended in at most so many moves more, or was left after so many; nothing, where it
-- cannot go on from the mark; or the refusal of the chain's next move
abbrev pub AnswersStretch : Instance → Moves → ℕ → List ℕ → Mark → ℕ
    → Result (Option Stretch) MoveError → Type 0
AnswersStretch m kind cycles start mark most (Ok None) = Unit {0}
AnswersStretch m kind cycles start mark most (Ok (Some (Over run))) =
    AnswersRun m kind cycles start (Ok run)
    × LeadAtMost m (moves_of kind m.labels) (moves_to (moves_of kind m.labels) mark) most start
    run.labelling.at
AnswersStretch m kind cycles start mark most (Ok (Some (Paused pause))) =
    IsPauseOf m kind cycles start mark most pause
AnswersStretch m kind cycles start mark most (Err e) = AnswersRun m kind cycles start (Err e)
