-- What a call answers whose pairs have costs of their own.
use Rattle.std.specs.Prelude.{◌≡◌, ◌≢◌, ◌⊎◌, ℕ, Bool, false, List, None, pos, Result, Ok, Err}
use Rattle.label_energies.specs.declared.change.Move.{Move}
use Rattle.label_energies.specs.declared.cycles.Moves.{Moves}
use Rattle.label_energies.specs.Chains.{IsChain, moves_of}
use Rattle.label_energies.specs.Energies.{Instance, labelling, data_energy, smooth_energy}
use Rattle.label_energies.specs.Energies.{label_energy}
use Rattle.cut_ways.specs.declared.solve_error.SolveError.TheVariants.{OutOfMemory as NoMemory}
use Rattle.one_move.specs.Moved.{IsMoved, IsCauseOfRefusal}
use Rattle.one_move.specs.declared.error.MoveError.{MoveError}
use Rattle.moves.specs.Problems.{IsRunOfCycles, IsRunRefusal}
use Rattle.moves.specs.Runs.{AnswersRun, MayMake}
use Rattle.gco_arrays.specs.PairCalls.{IsPairCallGiven, PairCall, instance_of_call}
use Rattle.gco_arrays.specs.PairRefusals.{IsPairCallRefusal}
use Rattle.gco_arrays.specs.declared.refusal.Refusal.{Refusal}
use Rattle.gco_arrays.specs.declared.refusal.Refusal.TheVariants as why
use Rattle.gco_calls.specs.Calls.{moves_number}
use Rattle.gco_calls.specs.Outcomes.{energy_told, move_told, run_told}
use Rattle.gco_calls.specs.Refusals.{IsTold, move_refusal}
use Rattle.gco_calls.specs.declared.asked.Asked.{Asked}
use Rattle.gco_calls.specs.declared.asked.Asked.TheVariants.{Run, One}
use Rattle.gco_calls.specs.declared.asked.Made.{Made}
use Rattle.gco_calls.specs.declared.outcome.GcoOutcome.{GcoOutcome}

-- the three parts of the energy where it ended
pub record HasEnergyParts (m : Instance) (made : Made) : Type 0 where
  pub data_is : made.«data» ≡ pos (data_energy m (labelling made.labelling.at))
  pub smooth_is : made.smooth ≡ pos (smooth_energy m (labelling made.labelling.at))
  pub label_is : made.label ≡ pos (label_energy m (labelling made.labelling.at))

-- what a run or a move that was asked for answers: where it ended from a labelling, or its refusal
abbrev pub AnswersAsked : Instance → Asked → List ℕ → Result Made MoveError → Type 0
AnswersAsked m (Run moves cycles) start (Ok made) =
    IsRunOfCycles m (moves_of moves m.labels) cycles start made.labelling.at (Ok made.ended)
    × HasEnergyParts m made × MayMake m moves × (made.changed ≡ false)
AnswersAsked m (One move) start (Ok made) =
    IsMoved m move start made.labelling.at (Ok made.changed) × HasEnergyParts m made
    × (made.ended ≡ record { cycles = 0; settled = false })
AnswersAsked m (Run moves cycles) start (Err e) =
    IsRunRefusal (λ e. e ≡ NoMemory) e × AnswersRun m moves cycles start (Err e)
AnswersAsked m (One move) start (Err e) = IsCauseOfRefusal m move start e

-- why what was asked for is refused: what was given, or the chain's next move
abbrev pub IsAskedRefusal : PairCall → Asked → Refusal → Type 0
IsAskedRefusal a asked refusal =
    IsPairCallRefusal a refusal
    ⊎ (IsPairCallGiven a × ((error : MoveError)
    × AnswersAsked (instance_of_call a) asked a.arrays.start (Err error)
    × (refusal ≡ move_refusal error)))

-- what was given is in order, the run from the start ended at the labels, and the outcome tells its
-- cycles, whether it settled, the three parts of the energy there, and nothing else
pub record IsPairRunTold (a : PairCall) (number cycles : ℕ) (labels : List ℕ)
    (told : GcoOutcome) : Type 0 where
  pub given : IsPairCallGiven a
  pub moves : Moves
  pub numbered : number ≡ moves_number moves
  pub made : ℕ
  pub settled : Bool
  pub chain : IsChain (instance_of_call a) (moves_of moves a.arrays.label_count)
      cycles a.arrays.start labels made settled
  pub may : MayMake (instance_of_call a) moves
  pub told_is : told ≡ run_told (energy_told (instance_of_call a) labels) made settled None

-- what was given is in order, one move from the start reached the labels, and the outcome tells
-- whether they are others, the three parts of the energy there, and nothing else
pub record IsPairMoveTold (a : PairCall) (move : Move) (labels : List ℕ)
    (told : GcoOutcome) : Type 0 where
  pub given : IsPairCallGiven a
  pub changed : Bool
  pub moved : IsMoved (instance_of_call a) move a.arrays.start labels (Ok changed)
  pub told_is : told ≡ move_told (energy_told (instance_of_call a) labels) changed

-- the status and the outcome tell a refusal, and its cause holds: the number names no moves, or
-- what a run of the moves that it names refuses
pub record IsPairRefusalTold (a : PairCall) (number cycles status : ℕ)
    (told : GcoOutcome) : Type 0 where
  pub refusal : Refusal
  pub is_told : IsTold refusal status told
  pub cause : ((refusal ≡ why.NoSuchMoves) × (number ≢ 0) × (number ≢ 1))
      ⊎ ((moves : Moves) × (number ≡ moves_number moves)
      × IsAskedRefusal a (Run moves cycles) refusal)

-- the status and the outcome tell a refusal of one move, and its cause holds
pub record IsPairMoveRefusalTold (a : PairCall) (move : Move) (status : ℕ)
    (told : GcoOutcome) : Type 0 where
  pub refusal : Refusal
  pub is_told : IsTold refusal status told
  pub cause : IsAskedRefusal a (One move) refusal
