-- What is asked of an expansion before what its labels cost by themselves is added.
use Rattle.std.specs.Prelude.{ℕ, ◌≤◌, Bool, length, vec_len}
use Rattle.label_field.specs.Limits.{site_limit}
use Rattle.label_energies.specs.declared.change.Move.TheVariants.{Expand}
use Rattle.label_energies.specs.Energies.{labelling, is_used}
use Rattle.compile_cut.specs.declared.quadratic.Quadratic.{Quadratic}
use Rattle.compile_cut.specs.Quadratics.{HasRoomForTerm}
use Rattle.label_cost_terms.specs.declared.label_costs.Expansion.{Expansion}
use Rattle.move_energy.specs.Choices.{open_count, AreAllOpen, IsNumbering}
use Rattle.label_cost_terms.specs.LabelCosts.{uses}

-- of few sites exactly those that the expansion can change are open, and they are numbered
pub record IsOpenExpansion (e : Expansion) : Type 0 where
  pub opened : AreAllOpen (Expand e.alpha) e.at.now e.variables.now.choices.items
  pub numbering : IsNumbering e.variables.now.choices.items e.variables.now.of_sites.items
  pub few : length e.at.now ≤ site_limit

-- does some site have the label before the expansion?
abbrev pub has_label : Expansion → ℕ → Bool
has_label e label = is_used (length e.at.now) (labelling e.at.now) label

-- does some site have it once the open sites have these values?
abbrev pub takes_label : Expansion → ℕ → (ℕ → Bool) → Bool
takes_label e label x = uses e.alpha e.at.now e.variables.now.choices.items label x

-- the form has the nodes of the open sites, and room for one more and for the terms of a label
pub record HasRoomForLabel (e : Expansion) (q : Quadratic) : Type 0 where
  pub nodes : open_count e.variables.now.choices.items ≤ vec_len q.weights
  pub form : HasRoomForTerm q
