-- What the pieces of a state show.
use Rattle.std.specs.Prelude.{ℕ, ◌-◌, ◌==◌, slice_index}
use Rattle.sums.specs.Sums.{sum_below, count_if}
use Rattle.flow_network.specs.Cut.{nodes}
use Rattle.block_events.specs.States as core
use Rattle.block_net.specs.Whole.{Whole, node_block}
use Rattle.block_split.specs.Split.{whole_of}
use Rattle.block_state.specs.declared.pieces.Pieces.{Pieces}
use Rattle.block_events.specs.Effects.{state_of}
use Rattle.net_in_blocks.specs.Views.{blocks_in}

-- the state that the pieces make
abbrev pub state_in : Pieces → core.State
state_in p = state_of (blocks_in (whole_of p.net p.parts)) p.ways.messages p.got

-- what a node gave the sink: what it could at the opening less what it still can
abbrev pub given_at : Whole → ℕ → ℕ
given_at w v = slice_index w.net.sinks v - slice_index (blocks_in w).rooms v

-- what the nodes of a block gave the sink
abbrev pub given_by : Whole → ℕ → ℕ
given_by w b = sum_below (nodes w.net) (λ v. count_if (node_block w v == b) (given_at w v))
