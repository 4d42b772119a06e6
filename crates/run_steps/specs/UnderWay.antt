-- A run under way: its labels are where a beginning of its chain ends.
use Rattle.std.specs.Prelude.{◌≡◌, ℕ, List, slice_get, Option, Some, None, Result, Err, IfErr}
use Rattle.label_field.specs.LabelFields.{LabelField}
use Rattle.cost_store.specs.declared.problem.Problem.{Problem}
use Rattle.cost_store.specs.Posed.{Closure, WhereMeant}
use Rattle.label_energies.specs.declared.change.Move.{Move}
use Rattle.label_energies.specs.declared.cycles.Moves.{Moves}
use Rattle.label_energies.specs.declared.cycles.Moves.TheVariants.{Swap as Swaps}
use Rattle.label_energies.specs.Chains.{moves_of}
use Rattle.run_steps.specs.declared.course.Ended.{Ended}
use Rattle.run_steps.specs.declared.under_way.RunUnderWay.{RunUnderWay}
use Rattle.run_steps.specs.declared.under_way.Step.{Step}
use Rattle.run_steps.specs.Courses.{StandsOnCourse, HasComeTo, cycles_unless, cycle_of, moves_left}
use Rattle.run_steps.specs.Courses.{labels_changed, moves_made}
use Rattle.run_steps.specs.Problems.{IsRunOfCycles}
use Rattle.run_steps.specs.Remembered.{IsUnderWay}
use Rattle.one_move.specs.declared.error.MoveError.{MoveError}
use Rattle.one_move.specs.declared.error.MoveError.TheVariants.{LabelCostInSwap}

-- how a run ended, and nothing while it goes on
abbrev pub ended_of : RunUnderWay → Option Ended
ended_of run = run.course.ended

-- how many whole cycles it has done
abbrev pub cycles_of : RunUnderWay → ℕ
cycles_of run = cycles_unless run.course.done run.course.ended

-- how many moves of its chain lead to where it stands, those that change nothing among them
abbrev pub moves_made_by : RunUnderWay → ℕ
moves_made_by run = moves_made run.course

-- how many moves a run makes at most from here on
abbrev pub left_of : RunUnderWay → ℕ
left_of run = moves_left run.course

-- a run of at most so many cycles of this kind of moves is under way, from one labelling to
-- another: its labels are where a beginning of its chain ends, and where the chain ends once the
-- run has ended (`come`). What it works with, what it remembers and where it stands are of these
-- labels
pub record IsRunFrom {F V : Type 0} (f : Closure F) (v : Closure V) (problem : Problem F V)
    (kind : Moves) (cycles : ℕ) (start : List ℕ) (field : LabelField)
    (run : RunUnderWay) : Type 0 where
  pub come : WhereMeant f v problem (λ m. HasComeTo m (moves_of kind m.labels) cycles
      start field.at (cycles_of run) (ended_of run))
  pub under_way : IsUnderWay f v problem field run.space run.changes run.swaps
  pub kind_is : run.course.moves ≡ kind
  pub labels_are : run.course.labels ≡ problem.data_cost.labels
  pub allowed_is : run.course.allowed ≡ cycles
  pub stands : WhereMeant f v problem (λ m. StandsOnCourse m (moves_of kind m.labels) cycles
      run.course start field.at (ended_of run))

-- some such run is under way
abbrev pub IsSomeRun : {F V : Type 0} → Closure F → Closure V → Problem F V → LabelField
    → RunUnderWay → Type 0
IsSomeRun {F} {V} f v problem field run =
    (kind : Moves) × (cycles : ℕ) × (start : List ℕ)
    × IsRunFrom f v problem kind cycles start field run

-- what a step of a run comes to: the run is under way at the new labels, or at the old ones where
-- the move is refused, and the refusal is that of the chain's next move
pub record IsStepOf {A F V : Type 0} (f : Closure F) (v : Closure V) (problem : Problem F V)
    (kind : Moves) (cycles : ℕ) (start : List ℕ) (field : LabelField) (run : RunUnderWay)
    (result : Result A MoveError) : Type 0 where
  pub goes_on : IsRunFrom f v problem kind cycles start field run
  pub cause : WhereMeant f v problem (λ m. IfErr result
      (λ e. IsRunOfCycles m (moves_of kind m.labels) cycles start field.at (Err e)))
  pub own : IfErr result (λ e. e ≡ LabelCostInSwap → kind ≡ Swaps)

-- the move is the next one of the run, after so many whole cycles
abbrev pub IsAhead : RunUnderWay → ℕ → Move → Type 0
IsAhead run cycle move =
    (cycle ≡ run.course.done) × (slice_get (cycle_of run.course) run.course.place ≡ Some move)

-- what a step from f to g tells: the next move, and how many labels it changed; nothing where the
-- run had ended, and then the labels are as they were
abbrev pub TellsStep : RunUnderWay → List ℕ → List ℕ → Option Step → Type 0
TellsStep run f g None = (ended_of run ≡ None → ⊥) × (g ≡ f)
TellsStep run f g (Some step) =
    (ended_of run ≡ None) × IsAhead run step.cycle step.change
    × (step.changed ≡ labels_changed f g)
