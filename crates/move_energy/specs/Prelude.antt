-- The names that the clauses of this crate cite, passed on from one place. Declares nothing.
pub use Rattle.compile_cut.specs.Quadratics.{IsQuadraticBounded, IsConstant}
pub use Rattle.cost_store.specs.Limits.{site_cost_limit, pair_cost_limit}
pub use Rattle.cost_store.specs.Posed.{IsPosed, IsAsked, WhereMeant}
pub use Rattle.cost_store.specs.Promises.{IsCost}
pub use Rattle.label_field.specs.Limits.{site_limit, pair_limit}
pub use Rattle.label_field.specs.PairLists.{IsPair, IsWeightIn}
pub use Rattle.label_energies.specs.Energies.{labelling}
pub use Rattle.label_energies.specs.Moves.{IsMoveOf, label_after, IsRegularPair}
pub use Rattle.move_energy.specs.Built.{label_given, AddsCost, IsLonger, IsBuilt, AddsEnds}
pub use Rattle.move_energy.specs.Choices.{open_count, AreAllOpen, Changes, bit_of}
pub use Rattle.move_energy.specs.Ends.{AreEnds}
pub use Rattle.move_energy.specs.Limits.{surplus_limit}
pub use Rattle.move_energy.specs.OpenMoves.{IsValuedMove, IsNumberedMove, WhereNumbered}
pub use Rattle.move_energy.specs.OpenMoves.{HasFormOfOpen, IsFormOfOpen}
pub use Rattle.move_energy.specs.Problems.{AddsPair, ArePairsBuilt, IsBuildOf, IsPrepared}
pub use Rattle.move_energy.specs.Terms.{AreTermsTested}
pub use Rattle.move_energy.specs.Weights.{surplus_of, pair_table}
pub use Rattle.move_energy.specs.declared.choice.Choice.TheVariants.{Open}
pub use Rattle.pseudo_bool.specs.Energies.{IsWithin}
pub use Rattle.pseudo_bool.specs.Limits.{term_limit}
