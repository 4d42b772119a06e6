-- Why a run or a move is refused, and how that is told.
use Rattle.std.specs.Prelude.{◌≡◌, ◌≢◌, ◌⊎◌, ℕ, Err}
use Rattle.label_energies.specs.declared.change.Move.{Move}
use Rattle.label_energies.specs.declared.cycles.Moves.{Moves}
use Rattle.moves.specs.Runs.{AnswersRun}
use Rattle.moves.specs.Problems.{IsRunRefusal}
use Rattle.one_move.specs.Moved.{IsCauseOfRefusal}
use Rattle.cut_ways.specs.declared.solve_error.SolveError.TheVariants.{OutOfMemory as NoMemory}
use Rattle.one_move.specs.declared.error.MoveError.{MoveError}
use Rattle.one_move.specs.declared.error.MoveError.TheVariants as move_why
use Rattle.gco_arrays.specs.Calls.{CallArrays, IsGiven, instance_given}
use Rattle.gco_arrays.specs.Refusals.{IsGivenRefusal}
use Rattle.gco_arrays.specs.Statuses.{status_of}
use Rattle.gco_arrays.specs.declared.refusal.Refusal.{Refusal}
use Rattle.gco_arrays.specs.declared.refusal.Refusal.TheVariants as why
use Rattle.gco_calls.specs.Calls.{moves_number}
use Rattle.gco_calls.specs.Outcomes.{refusal_told}
use Rattle.gco_calls.specs.declared.outcome.GcoOutcome.{GcoOutcome}

-- the refusal of a call whose run or move was refused
abbrev pub move_refusal : MoveError → Refusal
move_refusal (move_why.PairNotRegular place alpha beta) = why.NotRegular place alpha beta
move_refusal move_why.LabelCostInSwap = why.LabelCostInSwap
move_refusal move_why.NoSuchLabel = why.NoSuchMove
move_refusal _ = why.OutOfMemory

-- why a run is refused: what it was given, or the chain's next move
abbrev pub IsLabelRefusal : CallArrays → Moves → ℕ → Refusal → Type 0
IsLabelRefusal a moves cycles refusal =
    IsGivenRefusal a refusal
    ⊎ (IsGiven a × ((error : MoveError) × IsRunRefusal (λ e. e ≡ NoMemory) error
    × AnswersRun (instance_given a) moves cycles a.start (Err error)
    × (refusal ≡ move_refusal error)))

-- the status and the outcome tell a refusal, and the outcome nothing else
pub record IsTold (refusal : Refusal) (status : ℕ) (told : GcoOutcome) : Type 0 where
  pub status_is : status ≡ status_of refusal
  pub told_is : told ≡ refusal_told refusal

-- the status and the outcome tell a refusal, and its cause holds: the number names no moves, or
-- what a run of the moves that it names refuses
pub record IsRefusalTold (a : CallArrays) (number cycles status : ℕ)
    (told : GcoOutcome) : Type 0 where
  pub refusal : Refusal
  pub is_told : IsTold refusal status told
  pub cause : ((refusal ≡ why.NoSuchMoves) × (number ≢ 0) × (number ≢ 1))
      ⊎ ((moves : Moves) × (number ≡ moves_number moves) × IsLabelRefusal a moves cycles refusal)

-- why one move is refused: what it was given, or the move
abbrev pub IsMoveCause : CallArrays → Move → Refusal → Type 0
IsMoveCause a move refusal =
    IsGivenRefusal a refusal
    ⊎ (IsGiven a × ((error : MoveError) × IsCauseOfRefusal (instance_given a) move a.start error
    × (refusal ≡ move_refusal error)))

-- the status and the outcome tell a refusal of one move, and its cause holds
pub record IsMoveRefusalTold (a : CallArrays) (move : Move) (status : ℕ)
    (told : GcoOutcome) : Type 0 where
  pub refusal : Refusal
  pub is_told : IsTold refusal status told
  pub cause : IsMoveCause a move refusal
