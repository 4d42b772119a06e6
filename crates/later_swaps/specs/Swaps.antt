-- What a run of swaps remembers of its moves.
use Rattle.std.specs.Prelude.{◌≡◌, ℕ, ◌+◌, ◌*◌, ◌<◌, ◌≤◌, Bool, List, length, Result, Ok, Err}
use Rattle.std.specs.Prelude.{Option, Some, None}
use Rattle.cost_store.specs.declared.problem.Problem.{Problem}
use Rattle.cost_store.specs.Posed.{Closure, WhereMeant}
use Rattle.label_energies.specs.declared.change.Move.TheVariants.{Swap}
use Rattle.label_energies.specs.Energies.{Instance, labelling}
use Rattle.label_field.specs.Limits.{label_limit}
use Rattle.move_energy.specs.MoveValues.{move_value}
use Rattle.near_changes.specs.declared.changes.Changes.{Changes}
use Rattle.near_changes.specs.Changes.{made_of, changed_after}
use Rattle.near_swaps.specs.Swaps.{WasSwapped}
use Rattle.one_move.specs.declared.error.MoveError.{MoveError}
use Rattle.one_move.specs.declared.workspace.Workspace.{Workspace}
use Rattle.one_move.specs.Building.{HasFormOf, AreChangesListed, site_values}
use Rattle.one_move.specs.Moved.{IsMoved}
use Rattle.site_bounds.specs.Decisions.{IsSmallestLeast}

-- the place of two labels in the list of the swaps' numbers
abbrev pub place_of_swap : ℕ → ℕ → ℕ
place_of_swap a b = a * label_limit + b

-- each swap that is remembered was made before f came, and each site that changed since has the
-- number of a later one
pub record AreSwapsStamped (m : Instance) (f : ℕ → ℕ) (swaps : Changes) : Type 0 where
  pub sites : 0 < length swaps.made.items → length swaps.stamps.items ≡ m.sites
  pub made : (k : ℕ) → made_of swaps k ≤ swaps.count
  pub known : (a b : ℕ) → b < label_limit → 0 < made_of swaps (place_of_swap a b)
      → WasSwapped m a b (changed_after swaps (place_of_swap a b)) f

-- what the sites get in a swap was found near the changes: the workspace has the values, which are
-- the least ones with the fewest ones if what is remembered is true, and lists the sites that they
-- may change
pub record IsSwapFound {F V : Type 0} (f : Closure F) (v : Closure V) (problem : Problem F V)
    (at : List ℕ) (a b : ℕ) (swaps : Changes) (space : Workspace) : Type 0 where
  pub form : HasFormOf f v problem at (Swap a b) space
  pub count : length space.built.variables.choices.items ≡ length at
  pub listed : AreChangesListed (Swap a b) at space
  pub least : WhereMeant f v problem (λ m.
      WasSwapped m a b (changed_after swaps (place_of_swap a b)) (labelling at)
      → IsSmallestLeast m.sites (move_value m (Swap a b) (labelling at))
      (site_values space.built.variables.choices.items))

-- what a swap that looks near the changes alone answers: what the whole one would; or nothing, the
-- labels as they were
abbrev pub IsLaterSwap : Instance → ℕ → ℕ → List ℕ → List ℕ → Result (Option Bool) MoveError
    → Type 0
IsLaterSwap m a b f g (Ok None) = g ≡ f
IsLaterSwap m a b f g (Ok (Some changed)) = IsMoved m (Swap a b) f g (Ok changed)
IsLaterSwap m a b f g (Err e) = IsMoved m (Swap a b) f g (Err e)
