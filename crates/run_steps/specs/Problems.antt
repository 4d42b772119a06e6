-- What runs of moves answer.
use Rattle.std.specs.Prelude.{◌≡◌, ◌<◌, ◌⊎◌, ℕ, List, length}
use Rattle.std.specs.Prelude.{Result, Ok, Err}
use Rattle.std.specs.List.{All}
use Rattle.label_field.specs.LabelFields.{LabelField}
use Rattle.label_energies.specs.declared.change.Move.{Move}
use Rattle.label_energies.specs.Energies.{Instance, AreLabelsFree}
use Rattle.label_energies.specs.Chains.{IsChain, IsBeginning}
use Rattle.run_steps.specs.declared.course.Ended.{Ended}
use Rattle.one_move.specs.Moved.{IsCauseOfRefusal}
use Rattle.cut_ways.specs.declared.solve_error.SolveError.{SolveError}
use Rattle.cut_ways.specs.declared.solve_error.SolveError.TheVariants.{Workers as NoWorkers}
use Rattle.cut_ways.specs.declared.solve_error.SolveError.TheVariants.{BadOptions as NoOptions}
use Rattle.one_move.specs.declared.error.MoveError.{MoveError}
use Rattle.one_move.specs.declared.error.MoveError.TheVariants.{NoSuchLabel, LabelCostInSwap}
use Rattle.one_move.specs.declared.error.MoveError.TheVariants.{PairNotRegular, Workers}
use Rattle.one_move.specs.declared.error.MoveError.TheVariants.{BadOptions}
use Rattle.one_move.specs.declared.error.MoveError.TheVariants.{NoBound, OutOfMemory}

-- a labelling of the problem's sites by its labels
pub record IsLabelledBy (m : Instance) (field : LabelField) : Type 0 where
  pub sites : length field.at ≡ m.sites
  pub labels : field.labels ≡ m.labels
  pub below : All (λ label. label < field.labels) field.at

-- the refusal is that of a pair
abbrev pub TellsPairNotRegular : MoveError → Type 0
TellsPairNotRegular NoSuchLabel = ⊥
TellsPairNotRegular LabelCostInSwap = ⊥
TellsPairNotRegular NoBound = ⊥
TellsPairNotRegular (PairNotRegular told alpha beta) = Unit {0}
TellsPairNotRegular Workers = ⊥
TellsPairNotRegular BadOptions = ⊥
TellsPairNotRegular OutOfMemory = ⊥

-- what a run may refuse: a pair, the cut, or memory, and never a label
abbrev pub IsRunRefusal : (SolveError → Type 0) → MoveError → Type 0
IsRunRefusal refuses NoSuchLabel = ⊥
IsRunRefusal refuses LabelCostInSwap = Unit {0}
IsRunRefusal refuses NoBound = ⊥
IsRunRefusal refuses (PairNotRegular place alpha beta) = Unit {0}
IsRunRefusal refuses Workers = refuses NoWorkers
IsRunRefusal refuses BadOptions = refuses NoOptions
IsRunRefusal refuses OutOfMemory = Unit {0}

-- what a run of cycles from f to g answers: the chain's last labelling, or the refusal of the
-- chain's next move; or it was not begun, as one of swaps where a label costs something by itself
abbrev pub IsRunOfCycles : Instance → List Move → ℕ → List ℕ → List ℕ
    → Result Ended MoveError → Type 0
IsRunOfCycles m moves allowed f g (Ok ended) =
    IsChain m moves allowed f g ended.cycles ended.settled
IsRunOfCycles m moves allowed f g (Err e) =
    ((next : Move) × IsBeginning m moves allowed f g next × IsCauseOfRefusal m next g e)
    ⊎ ((g ≡ f) × (e ≡ LabelCostInSwap) × (¬ AreLabelsFree m))
