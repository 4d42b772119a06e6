-- What a run over a table of smooth costs answers.
use Rattle.std.specs.Prelude.{◌≡◌, ℕ, ◌*◌, ◌≤◌, pos, ◌≤ℤ◌, Bool, List, length, Option, Some, None}
use Rattle.std.specs.Prelude.{IsTrue, Result, Ok, Err}
use Rattle.label_field.specs.LabelFields.{LabelField}
use Rattle.cost_store.specs.Limits.{data_energy_limit, smooth_energy_limit, label_energy_limit}
use Rattle.label_energies.specs.declared.cycles.Moves.{Moves}
use Rattle.label_energies.specs.declared.cycles.Moves.TheVariants.{Expansion, Swap}
use Rattle.label_energies.specs.Chains.{moves_of}
use Rattle.label_energies.specs.Energies.{Instance, AreLabelsFree, IsLabelled, HasMetric, HasRatio}
use Rattle.label_energies.specs.Energies.{labelling, energy, data_energy, smooth_energy}
use Rattle.label_energies.specs.Energies.{label_energy}
use Rattle.run_steps.specs.Problems.{IsRunOfCycles}
use Rattle.moves.specs.declared.bound.Bound.{Bound}
use Rattle.one_move.specs.declared.error.MoveError.{MoveError}
use Rattle.one_move.specs.declared.error.MoveError.TheVariants.{LabelCostInSwap}
use Rattle.moves.specs.declared.tables.Run.{Run}

-- expansions may always be made, swaps where no label costs anything by itself
abbrev pub MayMake : Instance → Moves → Type 0
MayMake m Expansion = Unit {0}
MayMake m Swap = AreLabelsFree m

-- a run has a bound: expansions of labels whose smooth costs are a metric and that cost nothing by
-- themselves, the last cycle of which changed nothing
pub record HasBound (m : Instance) (moves : Moves) (settled : Bool) : Type 0 where
  pub expansion : moves ≡ Expansion
  pub is_settled : IsTrue settled
  pub metric : HasMetric m
  pub free : AreLabelsFree m

-- these are the least and the greatest smooth cost of two unequal labels, and by them the labels
-- are near the least energy: the one times theirs is at most twice the other times that of any
-- labelling
pub record IsNearLeast (m : Instance) (labels : List ℕ) (bound : Bound) : Type 0 where
  pub ratio : HasRatio m bound.vmin bound.vmax
  pub near : (h : ℕ → ℕ) → IsLabelled m h
      → bound.vmin * energy m (labelling labels) ≤ (2 * bound.vmax) * energy m h

-- a bound is told exactly where the run that ended at these labels has one
abbrev pub TellsBound : Instance → Moves → List ℕ → Bool → Option Bound → Type 0
TellsBound m moves labels settled None = ¬ HasBound m moves settled
TellsBound m moves labels settled (Some bound) =
    HasBound m moves settled × IsNearLeast m labels bound

-- the run of so many cycles from a labelling: where it ended, and the three parts of the energy
-- there; or the refusal of the next move of the chain, from the labelling that the run had come to
abbrev pub AnswersRun : Instance → Moves → ℕ → List ℕ → Result Run MoveError → Type 0
AnswersRun m moves cycles start (Ok run) =
    IsRunOfCycles m (moves_of moves m.labels) cycles start run.labelling.at (Ok run.ended)
    × (run.«data» ≡ pos (data_energy m (labelling run.labelling.at)))
    × (run.smooth ≡ pos (smooth_energy m (labelling run.labelling.at)))
    × (run.label ≡ pos (label_energy m (labelling run.labelling.at)))
    × TellsBound m moves run.labelling.at run.ended.settled run.bound
    × MayMake m moves
AnswersRun m moves cycles start (Err e) =
    (reached : List ℕ) × IsRunOfCycles m (moves_of moves m.labels) cycles start reached (Err e)
    × (e ≡ LabelCostInSwap → ¬ MayMake m moves)

-- the last labelling has the sizes of the first, and the parts of its energy are in their ranges
pub record IsRunInRange (start : LabelField) (run : Run) : Type 0 where
  pub labels_are : run.labelling.labels ≡ start.labels
  pub sites_are : length run.labelling.at ≡ length start.at
  pub data_least : pos 0 ≤ℤ run.«data»
  pub data_most : run.«data» ≤ℤ pos data_energy_limit
  pub smooth_least : pos 0 ≤ℤ run.smooth
  pub smooth_most : run.smooth ≤ℤ pos smooth_energy_limit
  pub label_least : pos 0 ≤ℤ run.label
  pub label_most : run.label ≤ℤ pos label_energy_limit
