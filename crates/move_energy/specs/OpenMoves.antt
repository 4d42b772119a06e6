-- What is asked of a partly decided move before its energy is built, and what a form of its open
-- sites has.
use Rattle.std.specs.Prelude.{◌≡◌, ℕ, ◌≤◌, List, length, vec_len}
use Rattle.label_field.specs.Limits.{site_limit}
use Rattle.label_energies.specs.declared.change.Move.{Move}
use Rattle.label_energies.specs.Energies.{Instance, labelling}
use Rattle.label_energies.specs.Moves.{IsAllowed}
use Rattle.cost_store.specs.declared.problem.Problem.{Problem}
use Rattle.cost_store.specs.Posed.{Closure, IsPosed, IsAsked, IsMeant, WhereMeant}
use Rattle.compile_cut.specs.declared.quadratic.Quadratic.{Quadratic}
use Rattle.compile_cut.specs.Quadratics.{IsQuadraticBounded}
use Rattle.move_energy.specs.declared.building.MoveEnergy.{MoveEnergy}
use Rattle.move_energy.specs.declared.choice.Choice.{Choice}
use Rattle.move_energy.specs.declared.open_moves.NumberedMove.{NumberedMove}
use Rattle.move_energy.specs.Choices.{choice_at, open_rank, open_count, IsNumbering}

-- the move is asked of a posed problem, and there is a choice for each site
pub record IsValuedMove {F V : Type 0} (f : Closure F) (v : Closure V) (problem : Problem F V)
    (at : List ℕ) (move : Move) (choices : List Choice) : Type 0 where
  pub posed : IsPosed f v problem
  pub asked : IsAsked problem at move
  pub count : length choices ≡ length at

-- and the open sites are numbered
pub record IsNumberedMove {F V : Type 0} (f : Closure F) (v : Closure V) (step : NumberedMove F V)
    : Type 0 where
  pub posed : IsPosed f v step.problem.now
  pub asked : IsAsked step.problem.now step.at.now step.change
  pub choices : length step.variables.now.choices.items ≡ length step.at.now
  pub numbering : IsNumbering step.variables.now.choices.items step.variables.now.of_sites.items

-- this holds of the move from its labels, of each site's choice and of its variable, in each
-- instance that the problem means
abbrev pub WhereNumbered : {F V : Type 0} → Closure F → Closure V → NumberedMove F V
    → (Instance → Move → (ℕ → ℕ) → (ℕ → Choice) → (ℕ → ℕ) → Type 0) → Type 0
WhereNumbered {F} {V} f v step P = (m : Instance) → IsMeant f v step.problem.now m
    → P m step.change (labelling step.at.now) (choice_at step.variables.now.choices.items)
    (open_rank step.variables.now.choices.items)

-- the form has a node for each open site, and at most so many terms
pub record HasOpenNodes (terms : ℕ) (choices : List Choice) (q : Quadratic) : Type 0 where
  pub variables : vec_len q.weights ≡ open_count choices
  pub bounded : IsQuadraticBounded terms q

-- a numbered move, and a form that has a node for each of its open sites, and at most so many terms
pub record HasFormOfOpen {F V : Type 0} (f : Closure F) (v : Closure V) (terms : ℕ)
    (step : NumberedMove F V) (q : Quadratic) : Type 0 where
  pub step_is : IsNumberedMove f v step
  pub nodes : HasOpenNodes terms step.variables.now.choices.items q

-- the form has a node for each of few open sites, which are numbered, and at most so many terms
pub record IsFormOfOpen (terms : ℕ) (made : MoveEnergy) : Type 0 where
  pub bounded : IsQuadraticBounded terms made.form
  pub few : vec_len made.form.weights ≤ site_limit
  pub numbering : IsNumbering made.variables.choices.items made.variables.of_sites.items
  pub variables : vec_len made.form.weights ≡ open_count made.variables.choices.items

-- the move from these labels is allowed
abbrev pub IsAllowedFrom : {F V : Type 0} → Closure F → Closure V → Problem F V → List ℕ → Move
    → Type 0
IsAllowedFrom {F} {V} f v problem at move =
    WhereMeant f v problem (λ m. IsAllowed m move (labelling at))
