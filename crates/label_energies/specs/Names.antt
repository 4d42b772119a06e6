-- What goes by a name.
use Rattle.std.specs.Prelude.{ℕ, List, bytes_eq, Option, Some, None, codes, if◌then◌else◌}
use Rattle.label_energies.specs.declared.cycles.Moves.{Moves}
use Rattle.label_energies.specs.declared.cycles.Moves.TheVariants.{Expansion, Swap}

-- the moves of a name
abbrev pub moves_named : List ℕ → Option Moves
moves_named name =
    if bytes_eq name (codes "expansion") then Some Expansion
    else if bytes_eq name (codes "swap") then Some Swap
    else None
