-- The names that the clauses of this crate cite, passed on from one place. Declares nothing.
pub use Rattle.compile_cut.specs.Quadratics.{IsQuadraticBounded}
pub use Rattle.cost_store.specs.Limits.{label_cost_limit}
pub use Rattle.cost_store.specs.Promises.{IsCost}
pub use Rattle.label_field.specs.Limits.{site_limit, pair_limit, label_limit}
pub use Rattle.label_cost_terms.specs.Expansions.{has_label, takes_label, IsOpenExpansion}
pub use Rattle.label_cost_terms.specs.Expansions.{HasRoomForLabel}
pub use Rattle.label_cost_terms.specs.LabelCosts.{costs_below, AddsHidden, GrowsBy, nodes_of}
pub use Rattle.label_cost_terms.specs.Limits.{label_terms}
pub use Rattle.label_energies.specs.Energies.{labelling}
pub use Rattle.label_energies.specs.declared.change.Move.TheVariants.{Expand}
pub use Rattle.move_energy.specs.Choices.{open_count, AreAllOpen, IsNumbering, choice_at}
pub use Rattle.move_energy.specs.declared.choice.Choice.TheVariants.{Open}
pub use Rattle.pseudo_bool.specs.Limits.{term_limit}
pub use Rattle.sums.specs.Sums.{count_if}
