-- What a run under way remembers of its moves.
use Rattle.std.specs.Prelude.{ℕ}
use Rattle.cost_store.specs.declared.problem.Problem.{Problem}
use Rattle.cost_store.specs.Posed.{Closure, IsPosed, FitsProblem, WhereMeant}
use Rattle.label_energies.specs.Energies.{Instance, labelling}
use Rattle.label_field.specs.LabelFields.{LabelField}
use Rattle.later_swaps.specs.Swaps.{AreSwapsStamped}
use Rattle.near_changes.specs.declared.changes.Changes.{Changes}
use Rattle.near_changes.specs.Changes.{AreStamped}
use Rattle.one_move.specs.declared.workspace.Workspace.{Workspace}
use Rattle.one_move.specs.Building.{IsOfProblem}

-- what is remembered of expansions, and of swaps, is true of the labels
pub record AreMovesStamped (m : Instance) (f : ℕ → ℕ) (changes swaps : Changes) : Type 0 where
  pub expansions : AreStamped m f changes
  pub swaps_are : AreSwapsStamped m f swaps

-- a run is under way: its labels and its workspace are of a posed problem, and what is remembered
-- is true of the labels
pub record IsUnderWay {F V : Type 0} (f : Closure F) (v : Closure V) (problem : Problem F V)
    (field : LabelField) (space : Workspace) (changes swaps : Changes) : Type 0 where
  pub posed : IsPosed f v problem
  pub fits : FitsProblem problem field
  pub of_problem : IsOfProblem f v problem space
  pub stamped : WhereMeant f v problem
      (λ m. AreMovesStamped m (labelling field.at) changes swaps)
