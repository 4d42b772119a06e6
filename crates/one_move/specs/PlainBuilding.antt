-- What is left where the energy of a move without label costs is built.
use Rattle.std.specs.Prelude.{List, ℕ, Result, IfOk, OnOk}
use Rattle.label_field.specs.Limits.{site_limit}
use Rattle.label_energies.specs.declared.change.Move.{Move}
use Rattle.cost_store.specs.declared.problem.Problem.{Problem}
use Rattle.cost_store.specs.Posed.{Closure, WhereMeant}
use Rattle.move_energy.specs.declared.error.BuildError.{BuildError}
use Rattle.one_move.specs.declared.left.Left.{Left}
use Rattle.one_move.specs.declared.workspace.Workspace.{Workspace}
use Rattle.one_move.specs.Building.{IsOfProblem, HasFormOf, IsReadyToCut, IsBuiltPlain}

-- such a move is built: the workspace is of the problem as before, what is left can be cut, the
-- form of the move can be lent, and the answer is right
pub record IsPlainBuilding {F V : Type 0} (f : Closure F) (v : Closure V) (problem : Problem F V)
    (at : List ℕ) (move : Move) (space : Workspace) (result : Result Left BuildError)
    : Type 0 where
  pub of_problem : IsOfProblem f v problem space
  pub left : IfOk result (IsReadyToCut at move site_limit space)
  pub form : OnOk result (HasFormOf f v problem at move space)
  pub built : WhereMeant f v problem (λ m. IsBuiltPlain m move at space.built result)
