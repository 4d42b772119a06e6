-- The names that the clauses of this crate cite, passed on from one place. Declares nothing.
pub use Rattle.cost_store.specs.Limits.{site_cost_limit, pair_cost_limit}
pub use Rattle.cost_store.specs.Posed.{IsPosed, WhereMeant, IsAsked}
pub use Rattle.site_bounds.specs.Decided.{IsDecidedMove}
pub use Rattle.site_bounds.specs.Decisions.{Passes}
pub use Rattle.site_bounds.specs.Finding.{IsInBudget, SumsSite, IsAskedBySite, KnowsMove, ends_left}
pub use Rattle.site_bounds.specs.Finding.{total_left, SumsNext, EndsSites, DecidesSites}
pub use Rattle.site_bounds.specs.Listed.{AreListsEmpty, CoversOpen}
pub use Rattle.site_bounds.specs.Parts.{ArePassedChoices, site_weight, KeepsKnown, KeepsPassed}
pub use Rattle.site_bounds.specs.Parts.{IsSwept}
pub use Rattle.site_bounds.specs.Working.{CanDecide, AreOfNoSites, HasBounds, summed_count}
pub use Rattle.site_bounds.specs.Working.{AreOfSites}
pub use Rattle.site_bounds.specs.Working.{IsAnswered, AddsBounds, AreClosed, PassesClosed}
pub use Rattle.site_bounds.specs.Working.{IsBoundKnown, IsNoneSummed}
pub use Rattle.site_bounds.specs.Working.{AreUndecided, AreUnsummed, AreWaiting, ArePartlyDecided}
pub use Rattle.site_bounds.specs.Working.{greatest_total, TellsValue, IsMarked, IsSummed}
pub use Rattle.site_bounds.specs.Working.{IsWithinRange, AreWaitingBut, SeesPair, IsLooking, Shifts}
pub use Rattle.site_bounds.specs.Working.{least_shift, greatest_shift, StayDecided}
pub use Rattle.label_field.specs.Limits.{label_limit, site_limit}
pub use Rattle.label_field.specs.PairLists.{IsPair}
pub use Rattle.label_energies.specs.Energies.{labelling, Instance, IsInstance}
pub use Rattle.label_energies.specs.Moves.{IsAllowed, IsSwap}
pub use Rattle.label_energies.specs.declared.change.Move.{Move}
pub use Rattle.move_energy.specs.BySite.{AreBySite, degree, pair_beside}
pub use Rattle.move_energy.specs.Choices.{Changes, bit_of, choice_at, AreAllOpen, AreOpenSites}
pub use Rattle.move_energy.specs.Limits.{surplus_limit, weights_limit}
pub use Rattle.move_energy.specs.Problems.{IsPrepareRefusal}
pub use Rattle.move_energy.specs.declared.choice.Choice.TheVariants.{Open, One, Zero}
pub use Rattle.move_energy.specs.Assignments.{rise}
pub use Rattle.move_energy.specs.Ends.{decided_or}
pub use Rattle.move_energy.specs.MoveValues.{move_value}
pub use Rattle.form_lists.specs.Lists.{AreFormLists, IsReadOf, KnowsCosts, HasNoCosts}
pub use Rattle.site_forms.specs.Numbers.{IsFormOf, IsOverPairs, IsSitePlace, WhereRead}
