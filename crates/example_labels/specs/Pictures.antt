-- The problem of a small picture.
use Rattle.std.specs.Prelude.{ℕ, List, slice_index}
use Rattle.graph_cuts.specs.Grids.{grid, steps4, distance}
use Rattle.graph_cuts.specs.Labellings.{Instance, times_weight}
use Rattle.graph_cuts.specs.Metrics.{potts}

-- three columns, two rows and three grey levels: a level costs a pixel as much as it is away from
-- its sample, and each two neighbours of unequal levels cost 1
abbrev pub problem_of : List ℕ → Instance
problem_of samples = record {
  sites = 6;
  labels = 3;
  data_cost = λ site level. distance (slice_index samples site) level;
  smooth_cost = times_weight potts;
  pairs = grid 3 2 1 steps4;
  label_cost = λ label. 0;
}
