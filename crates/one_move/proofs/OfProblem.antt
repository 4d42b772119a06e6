-- Workspaces of a problem.
use Rattle.std.proofs.Common.{◌≡◌, ◌≢◌, [], sym, subst}
use Rattle.cost_store.specs.declared.problem.Problem.{Problem}
use Rattle.cost_store.specs.Posed.{Closure}
use Rattle.move_energy.specs.BySite.{AreBySite}
use Rattle.site_bounds.specs.declared.sites.Deciding.{Deciding}
use Rattle.form_lists.specs.Lists.{HasNoCosts, KnowsCosts}
use Rattle.form_lists.proofs.Asking.{none_known}
use Rattle.one_move.specs.declared.workspace.Workspace.{Workspace}
use Rattle.one_move.specs.Building.{IsOfProblem, KeepsDecided}

-- one of which nothing was taken is of any problem
pub new_of_problem : {F V : Type 0} (f : Closure F) (v : Closure V) (problem : Problem F V) (space : Workspace) → space.deciding.ends.starts.items ≡ []
    → HasNoCosts space.deciding.numbers → IsOfProblem f v problem space
new_of_problem {F} {V} f v problem space fresh none = ((λ some. absurd (some fresh)), none_known f v problem space.deciding.numbers none)

-- where nothing was grouped or decided since, it is still of the problem
pub still_of_problem : {F V : Type 0} (f : Closure F) (v : Closure V) (problem : Problem F V) (old new : Workspace) → KeepsDecided old new
    → IsOfProblem f v problem old → IsOfProblem f v problem new
still_of_problem {F} {V} f v problem old new same was =
    let P : Deciding → Type 0 = λ d. (d.ends.starts.items ≢ [] → AreBySite problem.pairs d.ends) × KnowsCosts f v problem d.numbers in
    subst P (sym same) was
