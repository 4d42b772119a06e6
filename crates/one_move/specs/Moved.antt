-- What one move answers.
use Rattle.std.specs.Prelude.{◌≡◌, ◌≢◌, ℕ, Bool, List, length, Option, Some}
use Rattle.std.specs.Prelude.{None, IsTrue, IsFalse, Result, Ok, Err}
use Rattle.label_energies.specs.declared.change.Move.{Move}
use Rattle.label_energies.specs.declared.change.Move.TheVariants.{Expand, Swap}
use Rattle.label_energies.specs.Energies.{Instance, labelling, AreLabelsFree}
use Rattle.label_energies.specs.Moves.{IsBest, IsAllowed, IsFirstIrregular, IsMoveOf, IsReached}
use Rattle.label_energies.specs.Moves.{IsSwap}
use Rattle.one_move.specs.LabelCosts.{IsTaken}
use Rattle.cut_ways.specs.declared.solve_error.SolveError.{SolveError}
use Rattle.cut_ways.specs.declared.solve_error.SolveError.TheVariants.{Workers as NoWorkers}
use Rattle.cut_ways.specs.declared.solve_error.SolveError.TheVariants.{BadOptions as NoOptions}
use Rattle.one_move.specs.declared.error.MoveError.{MoveError}
use Rattle.one_move.specs.declared.error.MoveError.TheVariants.{NoSuchLabel, LabelCostInSwap}
use Rattle.one_move.specs.declared.error.MoveError.TheVariants.{PairNotRegular, Workers}
use Rattle.one_move.specs.declared.error.MoveError.TheVariants.{BadOptions}
use Rattle.one_move.specs.declared.error.MoveError.TheVariants.{NoBound, OutOfMemory}

-- the labels that a refusal tells are those of the move
abbrev pub TellsLabels : Move → ℕ → Option ℕ → Type 0
TellsLabels (Expand a) alpha beta = (alpha ≡ a) × (beta ≡ None)
TellsLabels (Swap a b) alpha beta = (alpha ≡ a) × (beta ≡ Some b)

-- what a refusal of a move from f says: a label is too large; a pair's term is not regular, the
-- first such pair; or each term is regular and the cut was refused. Memory may be wanting anywhere
abbrev pub IsCauseOfRefusal : Instance → Move → List ℕ → MoveError → Type 0
IsCauseOfRefusal m move f NoSuchLabel = ¬ IsMoveOf m.labels move
IsCauseOfRefusal m move f LabelCostInSwap =
    IsMoveOf m.labels move × IsSwap move × (¬ AreLabelsFree m)
IsCauseOfRefusal m move f (PairNotRegular place alpha beta) =
    IsMoveOf m.labels move × IsFirstIrregular m move (labelling f) place
    × TellsLabels move alpha beta × IsTaken m move
IsCauseOfRefusal m move f Workers =
    IsMoveOf m.labels move × IsAllowed m move (labelling f) × IsTaken m move
IsCauseOfRefusal m move f BadOptions =
    IsMoveOf m.labels move × IsAllowed m move (labelling f) × IsTaken m move
IsCauseOfRefusal m move f NoBound = ⊥
IsCauseOfRefusal m move f OutOfMemory = Unit {0}

-- the refusal tells this pair and the labels of the move
abbrev pub TellsPair : Move → ℕ → MoveError → Type 0
TellsPair move place NoSuchLabel = ⊥
TellsPair move place LabelCostInSwap = ⊥
TellsPair move place NoBound = ⊥
TellsPair move place (PairNotRegular told alpha beta) = (told ≡ place) × TellsLabels move alpha beta
TellsPair move place Workers = ⊥
TellsPair move place BadOptions = ⊥
TellsPair move place OutOfMemory = ⊥

-- what one move from f to g answers
abbrev pub IsMoved : Instance → Move → List ℕ → List ℕ → Result Bool MoveError → Type 0
IsMoved m move f g (Ok changed) =
    IsMoveOf m.labels move × IsAllowed m move (labelling f) × IsBest m move f g
    × ((IsTrue changed → g ≢ f) × (IsFalse changed → g ≡ f)) × IsTaken m move
IsMoved m move f g (Err e) = (g ≡ f) × IsCauseOfRefusal m move f e

-- a move was made, whatever the costs are: it reached these labels, and told whether they are
-- others
abbrev pub IsMade : Move → List ℕ → List ℕ → Bool → Type 0
IsMade move f g changed =
    IsReached move (length f) (labelling f) (labelling g)
    × ((IsTrue changed → g ≢ f) × (IsFalse changed → g ≡ f))

-- the cut was refused, as what solves it may refuse; or memory
abbrev pub IsCutRefusal : (SolveError → Type 0) → MoveError → Type 0
IsCutRefusal refuses NoSuchLabel = ⊥
IsCutRefusal refuses LabelCostInSwap = ⊥
IsCutRefusal refuses NoBound = ⊥
IsCutRefusal refuses (PairNotRegular place alpha beta) = ⊥
IsCutRefusal refuses Workers = refuses NoWorkers
IsCutRefusal refuses BadOptions = refuses NoOptions
IsCutRefusal refuses OutOfMemory = Unit {0}

-- what one move may refuse: as a run, of a pair with the labels of the move, and a label only where
-- one is not below the number of labels
abbrev pub IsMoveRefusal : (SolveError → Type 0) → ℕ → Move → MoveError → Type 0
IsMoveRefusal refuses labels move NoSuchLabel = ¬ IsMoveOf labels move
IsMoveRefusal refuses labels move LabelCostInSwap = IsSwap move
IsMoveRefusal refuses labels move NoBound = ⊥
IsMoveRefusal refuses labels move (PairNotRegular place alpha beta) = TellsLabels move alpha beta
IsMoveRefusal refuses labels move Workers = refuses NoWorkers
IsMoveRefusal refuses labels move BadOptions = refuses NoOptions
IsMoveRefusal refuses labels move OutOfMemory = Unit {0}
