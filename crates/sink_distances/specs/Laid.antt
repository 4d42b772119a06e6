-- A net that stands in rows.
use Rattle.std.specs.Prelude.{◌+◌, ℕ, List, map, slice_index_or}
use Rattle.flow_network.specs.declared.arc.Arc.{Arc}
use Rattle.flow_network.specs.Cut.{Network, network_of}
use Rattle.sink_distances.specs.declared.rows.Cell.{Cell}
use Rattle.sink_distances.specs.declared.laid.Laid.{Laid}

-- the direction that stands at a place
abbrev pub standing_at : List Cell → ℕ → Cell
standing_at cells p = slice_index_or cells p (record { head = 0; opposite = 0; residual = 0 })

-- where its opposite stands
abbrev pub opposite_in : List Cell → ℕ → ℕ
opposite_in cells p = (standing_at cells p).opposite

-- the direction opposite to it
abbrev pub standing_opposite : List Cell → ℕ → Cell
standing_opposite cells p = standing_at cells (standing_at cells p).opposite

-- the arc whose direction from its first node stands at a place: the other direction leads back to
-- that node, and what can be sent along both is the capacity
abbrev pub arc_standing : List Cell → ℕ → Arc
arc_standing cells p = record {
  from = (standing_opposite cells p).head;
  to = (standing_at cells p).head;
  capacity = (standing_at cells p).residual + (standing_opposite cells p).residual;
}

-- the arcs whose directions from their first nodes stand at these places
abbrev pub arcs_standing : List Cell → List ℕ → List Arc
arcs_standing cells firsts = map (arc_standing cells) firsts

-- the net that stands in rows
abbrev pub laid_net : Laid → Network
laid_net laid = network_of laid.sources.items laid.sinks.items
    (arcs_standing laid.cells.items laid.firsts.items)
