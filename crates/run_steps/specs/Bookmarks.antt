-- A run that was left between two of its moves: where it stood, and what it remembers.
use Rattle.std.specs.Prelude.{◌≡◌, ◌⊎◌, ℕ, ◌+◌, ◌<◌, ◌≤◌, List, length, slice_index, Result, Err}
use Rattle.std.specs.Prelude.{IfErr}
use Rattle.cost_store.specs.declared.problem.Problem.{Problem}
use Rattle.cost_store.specs.Posed.{Closure}
use Rattle.label_field.specs.LabelFields.{LabelField}
use Rattle.label_energies.specs.declared.change.Move.{Move}
use Rattle.label_energies.specs.declared.cycles.Moves.{Moves}
use Rattle.label_energies.specs.declared.cycles.Moves.TheVariants.{Swap as Swaps}
use Rattle.label_energies.specs.Energies.{Instance, labelling}
use Rattle.label_energies.specs.Chains.{Cycles, moves_of}
use Rattle.near_changes.specs.Fresh.{WasExpanded}
use Rattle.near_changes.specs.Looking.{changed_since}
use Rattle.one_move.specs.Building.{IsWorkingOn}
use Rattle.one_move.specs.declared.error.MoveError.{MoveError}
use Rattle.one_move.specs.declared.error.MoveError.TheVariants.{LabelCostInSwap}
use Rattle.run_steps.specs.declared.bookmark.Mark.{Mark}
use Rattle.run_steps.specs.declared.under_way.RunUnderWay.{RunUnderWay}
use Rattle.run_steps.specs.Courses.{StandsOnCourse, moves_before}
use Rattle.run_steps.specs.Cycles.{IsSoFar}
use Rattle.run_steps.specs.Problems.{IsRunOfCycles}
use Rattle.run_steps.specs.Remembered.{AreMovesStamped}

-- a run of these moves from f goes on from g: so many whole cycles, each of which changed
-- something, lead from f to where another began, and that one has come to a place, at g
pub record GoesOnFrom (m : Instance) (moves : List Move) (mark : Mark) (f g : List ℕ) : Type 0 where
  pub start : List ℕ
  pub cycles : Cycles m moves mark.cycles f start
  pub so_far : IsSoFar m moves mark.place start g mark.changed mark.last

-- the mark says where a run of these moves from f stands, at g: before its first move, or within
-- its chain
abbrev pub IsMarkOf : Instance → List Move → Mark → List ℕ → List ℕ → Type 0
IsMarkOf m moves mark f g =
    ((mark.cycles ≡ 0) × (mark.place ≡ 0) × (g ≡ f))
    ⊎ GoesOnFrom m moves mark f g

-- so many moves of the chain lead to a mark
abbrev pub moves_to : List Move → Mark → ℕ
moves_to moves mark = moves_before moves mark.cycles mark.place

-- so many moves of the chain lead from f to g
abbrev pub LeadMoves : Instance → List Move → ℕ → List ℕ → List ℕ → Type 0
LeadMoves m moves count f g =
    (mark : Mark) × IsMarkOf m moves mark f g × (moves_to moves mark ≡ count)

-- so many moves of the chain and at most so many more lead from f to g
abbrev pub LeadAtMost : Instance → List Move → ℕ → ℕ → List ℕ → List ℕ → Type 0
LeadAtMost m moves before most f g =
    (more : ℕ) × (more ≤ most) × LeadMoves m moves (before + more) f g

-- no run of so many cycles of these moves goes on from the mark
abbrev pub IsPastEnd : List Move → ℕ → Mark → Type 0
IsPastEnd moves allowed mark = (allowed ≤ mark.cycles) ⊎ (length moves ≤ mark.place)

-- each label with a number above 0 was expanded before f came, and each site that changed since
-- has a greater number
pub record AreStamps (m : Instance) (f : ℕ → ℕ) (stamps made : List ℕ) (noted : ℕ) : Type 0 where
  pub sites : 0 < length made → length stamps ≡ m.sites
  pub most : (a : ℕ) → slice_index made a ≤ noted
  pub known : (a : ℕ) → 0 < slice_index made a
      → WasExpanded m a (changed_since stamps (slice_index made a)) f

-- a run of this kind from a start was left at the labels: where the mark says, and what is
-- remembered of its moves is true
pub record WasLeftAt (m : Instance) (kind : Moves) (start labels : List ℕ) (mark : Mark)
    (stamps made : List ℕ) : Type 0 where
  pub stands : IsMarkOf m (moves_of kind m.labels) mark start labels
  pub stamped : AreStamps m (labelling labels) stamps made mark.noted

-- the run works at labels of the problem
pub record IsRunOver {F V : Type 0} (f : Closure F) (v : Closure V) (problem : Problem F V)
    (field : LabelField) (run : RunUnderWay) : Type 0 where
  pub working : IsWorkingOn f v problem field run.space
  pub labels_are : run.course.labels ≡ problem.data_cost.labels

-- a run of at most so many cycles of this kind is under way, from a start to the labels: it stands
-- there in its chain, or at its end, and what it remembers is true
pub record IsRunIn (m : Instance) (kind : Moves) (cycles : ℕ) (start labels : List ℕ)
    (run : RunUnderWay) : Type 0 where
  pub kind_is : run.course.moves ≡ kind
  pub allowed_is : run.course.allowed ≡ cycles
  pub stands : StandsOnCourse m (moves_of kind m.labels) cycles run.course start labels
      run.course.ended
  pub stamped : AreMovesStamped m (labelling labels) run.changes run.swaps

-- what moves of a run come to: it is under way at the new labels, and a refusal is that of the
-- chain's next move
pub record IsStepIn {A : Type 0} (m : Instance) (kind : Moves) (cycles : ℕ)
    (start labels : List ℕ) (run : RunUnderWay) (result : Result A MoveError) : Type 0 where
  pub goes_on : IsRunIn m kind cycles start labels run
  pub cause : IfErr result
      (λ e. IsRunOfCycles m (moves_of kind m.labels) cycles start labels (Err e))
  pub own : IfErr result (λ e. e ≡ LabelCostInSwap → kind ≡ Swaps)
