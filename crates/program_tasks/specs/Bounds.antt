-- How near an energy is to the least, as its bound tells.
use Rattle.std.specs.Prelude.{◌*◌, Option, Some, None}
use Rattle.moves.specs.declared.bound.Bound.{Bound}
use Rattle.program_texts.specs.declared.lines.Near.{Near}

-- the numbers of a bound, where there is one: the least cost of two labels that differ times the
-- energy is at most twice the greatest times that of any labelling
abbrev pub near_of_bound : Option Bound → Option Near
near_of_bound None = None
near_of_bound (Some bound) = Some (record { first = bound.vmin; second = 2 * bound.vmax })
