-- The names that the clauses of this crate cite, passed on from one place. Declares nothing.
pub use Rattle.cost_store.specs.LabelCosts.{AreFree, costs_of}
pub use Rattle.cost_store.specs.Posed.{AreOfOneSize, FitsProblem, WhereMeant}
pub use Rattle.label_energies.specs.Energies.{labelling}
pub use Rattle.label_energies.specs.Moves.{IsBest}
pub use Rattle.label_energies.specs.declared.change.Move.TheVariants.{Expand}
pub use Rattle.later_expansions.specs.Stages.{AreStageFresh, AreStageZeros, AreStampsOf}
pub use Rattle.later_expansions.specs.Stages.{AreTermsRegular, CanBeTested, EndsMove}
pub use Rattle.later_expansions.specs.Stages.{HasNumbersNear, IsLater, IsStageReady, IsTakenLeast}
pub use Rattle.later_expansions.specs.Stages.{KeepsFreshSites}
pub use Rattle.move_energy.specs.Choices.{AreOpenSites, IsNumbering, choice_at, open_count}
pub use Rattle.move_energy.specs.Choices.{value_of}
pub use Rattle.move_energy.specs.declared.choice.Choice.TheVariants.{Zero}
pub use Rattle.near_changes.specs.Changes.{AreStamped, changed_after, made_of}
pub use Rattle.near_changes.specs.Fresh.{WasExpanded}
pub use Rattle.near_changes.specs.Looking.{AreFreshSites, AreTaking, IsClosedIn, is_marked}
pub use Rattle.one_move.specs.Building.{HasNumbersOf, HasTaken, IsOfProblem, IsReadyMove}
pub use Rattle.one_move.specs.Building.{IsWorkingOn, KeepsDecided, TellsChange, site_values}
pub use Rattle.one_move.specs.Moved.{IsCutRefusal, IsMade, IsMoveRefusal}
pub use Rattle.strip_nets.specs.Looking.{IsStageLeast}
