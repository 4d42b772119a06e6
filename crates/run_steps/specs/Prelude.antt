-- The names that the clauses of this crate cite, passed on from one place. Declares nothing.
pub use Rattle.cost_store.specs.Posed.{AreOfOneSize, FitsProblem, IsPosed, WhereMeant}
pub use Rattle.label_energies.specs.Chains.{moves_of}
pub use Rattle.label_energies.specs.Energies.{Instance, labelling}
pub use Rattle.label_energies.specs.declared.change.Move.TheVariants.{Expand, Swap}
pub use Rattle.label_field.specs.Limits.{label_limit}
pub use Rattle.later_swaps.specs.Swaps.{AreSwapsStamped}
pub use Rattle.near_changes.specs.Changes.{AreStamped}
pub use Rattle.one_move.specs.Building.{IsWorkingOn}
pub use Rattle.one_move.specs.Moved.{IsMoveRefusal, IsMoved}
pub use Rattle.run_steps.specs.Bookmarks.{IsPastEnd, IsRunIn, IsRunOver, IsStepIn, LeadAtMost}
pub use Rattle.run_steps.specs.Bookmarks.{LeadMoves, WasLeftAt, moves_to}
pub use Rattle.run_steps.specs.Courses.{IsBegun, LeadsBest, labels_changed}
pub use Rattle.run_steps.specs.Problems.{IsRunRefusal}
pub use Rattle.run_steps.specs.Remembered.{AreMovesStamped}
pub use Rattle.run_steps.specs.UnderWay.{IsAhead, IsRunFrom, IsSomeRun, IsStepOf, TellsStep}
pub use Rattle.run_steps.specs.UnderWay.{cycles_of, ended_of, left_of, moves_made_by}
