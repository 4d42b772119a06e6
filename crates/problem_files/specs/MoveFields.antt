-- The moves that a table names.
use Rattle.std.specs.Prelude.{ℕ, List, Option, Some, None, Result, Ok, Err}
use Rattle.toml.specs.Data.{Data, Members, as_str, get_member}
use Rattle.problem_files.specs.LabelFieldNames.{field_name}
use Rattle.problem_files.specs.declared.label_fault.LabelKey.TheVariants as field
use Rattle.problem_files.specs.declared.label_fault.LabelFault.{LabelFault}
use Rattle.problem_files.specs.declared.label_fault.LabelFault.TheVariants.{BadField}
use Rattle.label_energies.specs.Names.{moves_named}
use Rattle.label_energies.specs.declared.cycles.Moves.{Moves}
use Rattle.label_energies.specs.declared.cycles.Moves.TheVariants.{Expansion}

abbrev pub moves_or_fault : Option Moves → Result Moves LabelFault
moves_or_fault None = Err (BadField field.Moves)
moves_or_fault (Some moves) = Ok moves

abbrev pub moves_from : List ℕ → Result Moves LabelFault
moves_from name = moves_or_fault (moves_named name)

abbrev pub moves_text : Option (List ℕ) → Result Moves LabelFault
moves_text None = Err (BadField field.Moves)
moves_text (Some name) = moves_from name

abbrev pub moves_at : Option Data → Result Moves LabelFault
moves_at None = Ok Expansion
moves_at (Some d) = moves_text (as_str d)

unfoldable pub moves_in : Members → Result Moves LabelFault
moves_in ms = moves_at (get_member (field_name field.Moves) ms)
