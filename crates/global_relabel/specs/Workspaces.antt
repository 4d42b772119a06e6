-- What the lists of a workspace hold.
use Rattle.std.specs.Prelude.{◌≡◌, ℕ, List, length}
use Rattle.flow_network.specs.Cut.{Network, nodes}
use Rattle.sink_distances.specs.Search.{IsOrder, found_of}
use Rattle.global_relabel.specs.declared.workspace.Workspace.{Workspace}

-- the first places of the order list each node that has not the top label once, by rising labels
abbrev pub IsLabelOrder : List ℕ → List ℕ → Type 0
IsLabelOrder labels order = (count : ℕ) × IsOrder (found_of labels order count)

-- the lists have a place for each node of the net
pub record Serves (net : Network) (workspace : Workspace) : Type 0 where
  pub labels : length workspace.labels.items ≡ nodes net
  pub order : length workspace.order.items ≡ nodes net
  pub node_blocks : length workspace.node_blocks.items ≡ nodes net
