-- The blocks of a net, as they are made.
use Rattle.std.proofs.Common.{◌≡◌, ℕ, length, ap, subst, arith}
use Rattle.flow_network.specs.Cut.{Network, nodes, IsNet}
use Rattle.block_events.specs.States as core
use Rattle.block_net.specs.Whole.{Whole}
use Rattle.block_net.proofs.Tables.{length_table}
use Rattle.block_split.specs.declared.parts.Parts.{Parts}
use Rattle.block_split.specs.Split.{CanSplit, IsSplit, whole_of}
use Rattle.block_events.specs.Effects.{BlocksView, opening_blocks}
use Rattle.net_in_blocks.specs.Views.{blocks_in, IsLaid, IsLong}

-- what a state shows of its blocks
abbrev blocks_shown : core.State → BlocksView
blocks_shown s = record { net = s.net; blocks = s.blocks; excess = s.excess; labels = s.labels; rooms = s.rooms; lanes = s.lanes }

pub opened_view : (net : Network) (blocks : ℕ) (parts : Parts) → IsSplit net blocks parts.firsts.items parts.slots.items parts.blocks.items
    → blocks_in (whole_of net parts) ≡ opening_blocks net blocks
opened_view net blocks parts split = ap blocks_shown split.opening

pub opened_laid : (net : Network) (blocks : ℕ) (parts : Parts) → IsNet net → CanSplit net blocks → IsSplit net blocks parts.firsts.items parts.slots.items parts.blocks.items
    → IsLaid (whole_of net parts)
opened_laid net blocks parts is can split = record {
  net = is;
  arcs = can.arcs;
  some = omega (arith, split.number, can.some);
  few = omega (arith, split.number, can.few);
  placed = record {
    firsts_len = split.placed.firsts_len;
    slots_len = split.placed.slots_len;
    node_blocks = split.placed.node_blocks;
    firsts = split.placed.firsts;
    places = split.placed.places;
    tops = split.placed.tops;
    inner = λ x d e. let at = split.placed.inner x d e in record { from = at.from; below = at.below; within = at.within; far = at.far; opposite = at.opposite };
    borders = λ x d e. let at = split.placed.borders x d e in record { from = at.from; below = at.below; within = at.within; direction = at.direction; near = at.near; to = at.to; opposite = at.opposite; capacity = at.capacity };
    apart = split.placed.apart;
    lanes = λ v j l low high. let found = split.placed.lanes v j l low high in (found.0, record { direction = found.1.direction; near = found.1.near; outer = found.1.outer; slot = found.1.slot });
    outers = λ v j l low high. let found = split.placed.outers v j l low high in (found.0, record { direction = found.1.direction; near = found.1.near; outer = found.1.outer; slot = found.1.slot });
  };
  filled = record {
    labels = split.filled.labels;
    nodes = λ b p lb lp. let found = split.filled.nodes b p lb lp in (found.0, record { node = found.1.node; node_block = found.1.node_block; place = found.1.place });
    borders = λ b j lb lj. let found = split.filled.borders b j lb lj in (found.0, found.1, record { direction = found.2.direction; near = found.2.near; outer = found.2.outer; slot = found.2.slot });
  };
}

pub laid_long : (w : Whole) (v : BlocksView) → IsLaid w → blocks_in w ≡ v → IsLong v
laid_long w v laid view =
    let n = nodes w.net in
    let m = length w.net.arcs in
    let long : IsLong (blocks_in w) = record {
      net = laid.net;
      some = laid.some;
      few = laid.few;
      excess = length_table n _;
      labels = length_table n _;
      rooms = length_table n _;
      forth = length_table m _;
      back = length_table m _;
    } in
    subst IsLong view long
