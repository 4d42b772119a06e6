-- The names that the clauses of this crate cite, passed on from one place. Declares nothing.
pub use Rattle.persistency.specs.Agreeing.{Agree}
pub use Rattle.compile_cut.specs.Quadratics.{IsQuadraticBounded, quadratic_value}
pub use Rattle.cost_store.specs.LabelCosts.{costs_of, AreCosts, AreCostly}
pub use Rattle.cost_store.specs.Limits.{pair_cost_limit}
pub use Rattle.cost_store.specs.Posed.{IsPosed, WhereMeant, IsAsked, AreOfOneSize, FitsProblem}
pub use Rattle.site_bounds.specs.Decided.{IsDecidedMove}
pub use Rattle.site_bounds.specs.Decisions.{IsSmallestLeast}
pub use Rattle.label_field.specs.Limits.{site_limit, label_limit}
pub use Rattle.label_cost_terms.specs.LabelCosts.{AreCostsOf}
pub use Rattle.label_energies.specs.Energies.{labelling, plain_energy}
pub use Rattle.label_energies.specs.Moves.{IsAllowed, IsSwap, IsBest, IsMoveOf}
pub use Rattle.label_energies.specs.Moves.{label_after, labelling_made}
pub use Rattle.label_energies.specs.declared.change.Move.TheVariants.{Expand}
pub use Rattle.move_energy.specs.Assignments.{rise}
pub use Rattle.move_energy.specs.BySite.{AreBySite}
pub use Rattle.move_energy.specs.Choices.{choice_at, AreOpenSites}
pub use Rattle.move_energy.specs.Ends.{rise_limit}
pub use Rattle.move_energy.specs.Limits.{weights_limit}
pub use Rattle.move_energy.specs.OpenMoves.{IsAllowedFrom}
pub use Rattle.move_energy.specs.Problems.{IsPrepareRefusal}
pub use Rattle.move_energy.specs.MoveValues.{move_value}
pub use Rattle.move_energy.specs.Weights.{AreWeights}
pub use Rattle.pseudo_bool.specs.Energies.{assignment}
pub use Rattle.pseudo_bool.specs.Limits.{term_limit}
pub use Rattle.site_forms.specs.Forms.{place_rise}
pub use Rattle.site_forms.specs.Numbers.{form_of, label_by, IsSitePlace, Tells, WhereRead}
pub use Rattle.one_move.specs.Building.{IsOfProblem, HasListsOfMove, IsReadMove, HasFormOf}
pub use Rattle.one_move.specs.Building.{IsRestWhereListed, IsReadyMove, IsWeighedMove}
pub use Rattle.one_move.specs.Building.{IsLeftOf, KeepsChoices, KeepsDecided, IsReadyToCut}
pub use Rattle.one_move.specs.Building.{IsBuiltMove, site_values, LowersEnergy, HasListing}
pub use Rattle.one_move.specs.Building.{HasChanges, AreChangesListed}
pub use Rattle.one_move.specs.Building.{TellsChange, made_value, GivesMade}
pub use Rattle.one_move.specs.Building.{KeepsSizes, HasTaken, IsLeftSized, LeavesLeast}
pub use Rattle.one_move.specs.Building.{TellsLeft, priced_of, IsWorthPrice, IsPriced}
pub use Rattle.one_move.specs.Building.{IsPricedAnswer}
pub use Rattle.one_move.specs.LabelCosts.{IsFreeFor}
pub use Rattle.one_move.specs.Moved.{IsMade, IsCutRefusal, IsMoveRefusal, IsMoved, TellsPair}
pub use Rattle.one_move.specs.Turning.{turns_label, turned_below, TellsOver, energy_rise}
