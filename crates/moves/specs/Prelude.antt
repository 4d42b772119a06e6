-- The names that the clauses of this crate cite, passed on from one place. Declares nothing.
pub use Rattle.cost_store.specs.LabelCosts.{costs_of, AreFree, AreCostly, AreLabelCosts, HasCosts}
pub use Rattle.cost_store.specs.Limits.{data_limit, site_cost_limit, smooth_limit}
pub use Rattle.cost_store.specs.Posed.{IsPosed, WhereMeant, AreOfOneSize, FitsProblem}
pub use Rattle.cost_store.specs.Promises.{Keeps, IsCost, IsMetricTable, entry_at}
pub use Rattle.label_energies.specs.Chains.{expansions, swaps, moves_of}
pub use Rattle.label_energies.specs.Energies.{labelling, AreLabelsFree, Instance, HasMetric}
pub use Rattle.label_energies.specs.declared.change.Move.TheVariants.{Expand, Swap}
pub use Rattle.label_energies.specs.declared.cycles.Moves.TheVariants.{Expansion}
pub use Rattle.run_steps.specs.Bookmarks.{IsPastEnd, WasLeftAt}
pub use Rattle.moves.specs.Bounds.{IsBoundOf, IsWithinBound}
pub use Rattle.moves.specs.Instances.{IsInstanceOf, data_entry, instance_of}
pub use Rattle.moves.specs.Prices.{ArePrices}
pub use Rattle.run_steps.specs.Problems.{IsRunOfCycles, IsRunRefusal, TellsPairNotRegular}
pub use Rattle.moves.specs.Refusals.{IsRefusalOver}
pub use Rattle.moves.specs.Runs.{MayMake, AnswersRun, IsRunInRange}
pub use Rattle.moves.specs.Stretches.{AnswersStretch}
pub use Rattle.one_move.specs.Moved.{IsMade, IsMoveRefusal, IsMoved}
