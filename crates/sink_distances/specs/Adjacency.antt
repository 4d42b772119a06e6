use Rattle.std.specs.Prelude.{map}
use Rattle.flow_network.specs.Cut.{Network, nodes}
use Rattle.counting_sort.specs.Grouping.{IsGrouped}
use Rattle.sink_distances.specs.declared.adjacency.Adjacency.{Adjacency}

-- the arcs' places, grouped by the node that each leaves, and by the node that each enters
pub record IsAdjacency (net : Network) (adjacency : Adjacency) : Type 0 where
  pub out : IsGrouped (nodes net) (map (λ arc. arc.from) net.arcs) adjacency.out
  pub into : IsGrouped (nodes net) (map (λ arc. arc.to) net.arcs) adjacency.into
