-- The stages of an expansion that is made once more, what it answers, and what a run remembers of
-- its expansions.
use Rattle.std.specs.Prelude.{◌≡◌, ◌⊎◌, ℕ, ◌<◌, Bool, true, IsTrue, List, length, Option, Some}
use Rattle.std.specs.Prelude.{None, Result, Ok, Err}
use Rattle.std.specs.List.{All, Contains}
use Rattle.label_field.specs.LabelFields.{LabelField}
use Rattle.label_field.specs.PairLists.{PairList}
use Rattle.cost_store.specs.declared.problem.Problem.{Problem}
use Rattle.cost_store.specs.Posed.{Closure, WhereMeant}
use Rattle.label_energies.specs.declared.change.Move.{Move}
use Rattle.label_energies.specs.declared.change.Move.TheVariants.{Expand}
use Rattle.label_energies.specs.Energies.{Instance, labelling}
use Rattle.label_energies.specs.Moves.{IsAllowed}
use Rattle.move_energy.specs.BySite.{AreBySite}
use Rattle.move_energy.specs.Choices.{choice_at, AreOpenSites}
use Rattle.move_energy.specs.OpenMoves.{IsAllowedFrom}
use Rattle.form_lists.specs.declared.lists.FormLists.{FormLists}
use Rattle.move_energy.specs.declared.by_site.Neighbours.{Neighbours}
use Rattle.form_lists.specs.Lists.{AreFormLists, IsReadNear}
use Rattle.site_bounds.specs.Decisions.{IsSmallestLeast}
use Rattle.move_energy.specs.MoveValues.{move_value}
use Rattle.near_changes.specs.declared.changes.Changes.{Changes}
use Rattle.near_changes.specs.Changes.{AreStamped, changed_after}
use Rattle.persistency.specs.Fixing.{AreLeastZeros}
use Rattle.near_changes.specs.Fresh.{WasExpanded, AreFresh}
use Rattle.near_changes.specs.Looking.{is_marked}
use Rattle.one_move.specs.declared.error.MoveError.{MoveError}
use Rattle.one_move.specs.declared.error.MoveError.TheVariants.{OutOfMemory}
use Rattle.one_move.specs.declared.workspace.Workspace.{Workspace}
use Rattle.one_move.specs.Building.{KeepsDecided}
use Rattle.one_move.specs.Moved.{IsMoved}

-- a stage can be cut: its choices are of the sites, its open sites and its fresh sites are listed,
-- and the pairs are by their sites
pub record IsStageReady (pairs : PairList) (space : Workspace) : Type 0 where
  pub by_site : AreBySite pairs space.deciding.ends
  pub sites : length space.built.variables.choices.items ≡ pairs.sites
  pub opened : AreOpenSites space.built.variables.choices.items space.stage.opened.items
  pub listed : (p : ℕ) → p < pairs.sites → is_marked space.stage.fresh.items p ≡ true
      → Contains space.stage.fresh_sites.items p
  pub inside : All (λ p. p < pairs.sites) space.stage.fresh_sites.items

-- the lists have the numbers of a move at these sites and maybe at others, and it is allowed
pub record HasNumbersNear {F V : Type 0} (f : Closure F) (v : Closure V) (problem : Problem F V)
    (at : List ℕ) (move : Move) (sites : List ℕ) (ends : Neighbours) (numbers : FormLists)
    : Type 0 where
  pub sites_are : length at ≡ problem.pairs.sites
  pub allowed : IsAllowedFrom f v problem at move
  pub lists : AreFormLists problem.pairs ends at numbers
  pub read : WhereMeant f v problem (λ m. IsReadNear m move ends at numbers sites)

-- the terms of an expansion are regular, or it can test them by what it lists: the costs are a
-- metric, or each pair's own
abbrev pub CanBeTested : {F V : Type 0} → Problem F V → Type 0
CanBeTested {F} {V} problem =
    IsTrue problem.smooth_cost.by_metric ⊎ (problem.pairs.numbered ≡ true)

-- an expansion whose terms are not known to be regular is left to be made whole, or refused for
-- want of memory
abbrev pub AreTermsRegular : Instance → ℕ → List ℕ → Result Bool MoveError → Type 0
AreTermsRegular m a f (Ok closed) = IsTrue closed → IsAllowed m (Expand a) (labelling f)
AreTermsRegular m a f (Err e) = (e ≡ OutOfMemory) ⊎ IsAllowed m (Expand a) (labelling f)

-- the fresh sites stay as they are, and what was grouped and decided
pub record KeepsFreshSites (old new : Workspace) : Type 0 where
  pub decided : KeepsDecided old new
  pub fresh : new.stage.fresh ≡ old.stage.fresh
  pub listed : new.stage.fresh_sites ≡ old.stage.fresh_sites

-- the stage's zeros are zeros of the least values of the expansion
abbrev pub AreStageZeros : Instance → ℕ → List ℕ → Workspace → Type 0
AreStageZeros m a f space =
    AreLeastZeros m.sites (move_value m (Expand a) (labelling f))
    (choice_at space.built.variables.choices.items)

-- among the stage's fresh sites are all that changed since the label's last expansion, and those
-- beside them
abbrev pub AreStageFresh : Instance → ℕ → List ℕ → Changes → Workspace → Type 0
AreStageFresh m a f changes space =
    AreFresh m a (labelling f) (changed_after changes a) (is_marked space.stage.fresh.items)

-- what takes the label is what is taken in the workspace
abbrev pub IsTakenLeast : Instance → ℕ → List ℕ → Workspace → Type 0
IsTakenLeast m a f space =
    IsSmallestLeast m.sites (move_value m (Expand a) (labelling f))
    (is_marked space.stage.taken.items)

-- a closed stage ends the expansion, where its zeros and its fresh sites are what they are called
abbrev pub EndsMove : Instance → ℕ → List ℕ → Workspace → Workspace → Type 0
EndsMove m a f old new =
    (changed : ℕ → Bool) → WasExpanded m a changed (labelling f)
    → AreFresh m a (labelling f) changed (is_marked old.stage.fresh.items)
    → AreStageZeros m a f old → IsTakenLeast m a f new

-- what an expansion that looks near the changes alone answers: what the whole one would; or
-- nothing, the labels as they were
abbrev pub IsLater : Instance → ℕ → List ℕ → List ℕ → Result (Option Bool) MoveError → Type 0
IsLater m a f g (Ok None) = g ≡ f
IsLater m a f g (Ok (Some changed)) = IsMoved m (Expand a) f g (Ok changed)
IsLater m a f g (Err e) = IsMoved m (Expand a) f g (Err e)

-- what is remembered of the moves of a run is true of its labels
abbrev pub AreStampsOf : {F V : Type 0} → Closure F → Closure V → Problem F V → LabelField → Changes
    → Type 0
AreStampsOf {F} {V} f v problem field changes =
    WhereMeant f v problem (λ m. AreStamped m (labelling field.at) changes)
