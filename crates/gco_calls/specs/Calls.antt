-- What a run and a move of a call tell.
use Rattle.std.specs.Prelude.{◌≡◌, ℕ, Bool, List, Option, Ok}
use Rattle.label_energies.specs.declared.change.Move.{Move}
use Rattle.label_energies.specs.Chains.{IsChain, moves_of}
use Rattle.label_energies.specs.declared.cycles.Moves.{Moves}
use Rattle.label_energies.specs.declared.cycles.Moves.TheVariants.{Expansion, Swap}
use Rattle.moves.specs.declared.bound.Bound.{Bound}
use Rattle.moves.specs.Runs.{MayMake, TellsBound}
use Rattle.one_move.specs.Moved.{IsMoved}
use Rattle.gco_arrays.specs.Calls.{CallArrays, IsGiven, instance_given}
use Rattle.gco_calls.specs.Outcomes.{energy_told, move_told, run_told}
use Rattle.gco_calls.specs.declared.outcome.GcoOutcome.{GcoOutcome}

-- the number of the moves
abbrev pub moves_number : Moves → ℕ
moves_number Expansion = 0
moves_number Swap = 1

-- what was given is in order, the run from the start ended at the labels, and the outcome tells its
-- cycles, whether it settled, the three parts of the energy there, its bound, where it has one, and
-- nothing else
pub record IsRunTold (a : CallArrays) (number cycles : ℕ) (labels : List ℕ)
    (told : GcoOutcome) : Type 0 where
  pub given : IsGiven a
  pub moves : Moves
  pub numbered : number ≡ moves_number moves
  pub made : ℕ
  pub settled : Bool
  pub chain : IsChain (instance_given a) (moves_of moves a.label_count)
      cycles a.start labels made settled
  pub bound : Option Bound
  pub tells : TellsBound (instance_given a) moves labels settled bound
  pub may : MayMake (instance_given a) moves
  pub told_is : told ≡ run_told (energy_told (instance_given a) labels) made settled bound

-- what was given is in order, one move from the start reached the labels, and the outcome tells
-- whether they are others, the three parts of the energy there, and nothing else
pub record IsMoveTold (a : CallArrays) (move : Move) (labels : List ℕ)
    (told : GcoOutcome) : Type 0 where
  pub given : IsGiven a
  pub changed : Bool
  pub moved : IsMoved (instance_given a) move a.start labels (Ok changed)
  pub told_is : told ≡ move_told (energy_told (instance_given a) labels) changed
