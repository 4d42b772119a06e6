-- That the rows of a net show its arcs.
use Rattle.sink_distances.specs.declared.laid.Laid.{Laid}
use Rattle.sink_distances.specs.declared.rows.Rows.{Rows}
use Rattle.sink_distances.specs.Laid.{laid_net}
use Rattle.sink_distances.specs.Rows.{IsRows, CarryNothing}

-- the rows of a net that stands in them
abbrev pub rows_laid : Laid → Rows
rows_laid laid = record {
  starts = laid.starts;
  ends = laid.ends;
  cells = laid.cells;
  net = laid_net laid;
}

-- they show the net, and no arc carries anything
pub record AreLaid (laid : Laid) : Type 0 where
  pub rows : IsRows (laid_net laid) (rows_laid laid)
  pub empty : CarryNothing (laid_net laid) (rows_laid laid)
