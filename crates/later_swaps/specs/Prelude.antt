-- The names that the clauses of this crate cite, passed on from one place. Declares nothing.
pub use Rattle.cost_store.specs.LabelCosts.{AreFree, costs_of}
pub use Rattle.cost_store.specs.Posed.{AreOfOneSize, FitsProblem, WhereMeant}
pub use Rattle.label_energies.specs.Energies.{Instance, labelling}
pub use Rattle.label_energies.specs.declared.change.Move.TheVariants.{Swap}
pub use Rattle.label_field.specs.Limits.{label_limit}
pub use Rattle.later_swaps.specs.Swaps.{AreSwapsStamped, IsLaterSwap, IsSwapFound, place_of_swap}
pub use Rattle.near_changes.specs.Changes.{made_of}
pub use Rattle.near_swaps.specs.Swaps.{IsSettled, kept_values}
pub use Rattle.one_move.specs.Building.{IsOfProblem, IsReadyMove, IsWorkingOn, made_value}
pub use Rattle.one_move.specs.Building.{site_values}
pub use Rattle.one_move.specs.Moved.{IsMade, IsMoveRefusal, IsMoved}
pub use Rattle.site_bounds.specs.Decisions.{IsSmallestLeast}
