-- What all blocks of a net hold of its nodes and directions, and what each event does to that. What
-- an event does to the messages on the way stands beside it in Events.
use Rattle.std.specs.Prelude.{ℕ, ◌+◌, ◌-◌, cond, max, List, length, map, slice_index, slice_set}
use Rattle.std.specs.Prelude.{Some, None, replicate}
use Rattle.std.specs.Option.{is_some}
use Rattle.std.specs.List.{range_with_len}
use Rattle.flow_network.specs.Cut.{Network, nodes}
use Rattle.block_events.specs.declared.direction.Direction.{Direction}
use Rattle.block_events.specs.declared.message.Message.{Message}
use Rattle.block_events.specs.Directions.{near, far, opposite, forward, backward}
use Rattle.block_events.specs.States.{State, Lane, Lanes, lane_at, put_lane, is_border}

pub record BlocksView : Type 0 where
  pub net : Network
  pub blocks : ℕ
  pub excess : List ℕ
  pub labels : List ℕ
  pub rooms : List ℕ
  pub lanes : Lanes

-- with the messages on the way and what the sink got
abbrev pub state_of : BlocksView → List (List (List Message)) → ℕ → State
state_of b ways got = record {
  net = b.net;
  blocks = b.blocks;
  excess = b.excess;
  labels = b.labels;
  rooms = b.rooms;
  lanes = b.lanes;
  ways = ways;
  got = got;
}

-- without them
abbrev pub view_of : State → BlocksView
view_of s = record {
  net = s.net;
  blocks = s.blocks;
  excess = s.excess;
  labels = s.labels;
  rooms = s.rooms;
  lanes = s.lanes;
}

-- before any event: each node has what its source sends it, each label is 0, and each arc can carry
-- its capacity from tail to head
abbrev pub opening_blocks : Network → ℕ → BlocksView
opening_blocks net blocks = record {
  net = net;
  blocks = blocks;
  excess = net.sources;
  labels = replicate (nodes net) 0;
  rooms = net.sinks;
  lanes = record {
    forth = map (λ arc. record { residual = arc.capacity; known = 0; flight = None }) net.arcs;
    back = map (λ arc. record { residual = 0; known = 0; flight = None }) net.arcs;
  };
}

-- ---- what each event does

-- an amount goes to the sink
abbrev pub blocks_after_sink_push : BlocksView → ℕ → ℕ → BlocksView
blocks_after_sink_push b v a = record b {
  excess = slice_set b.excess v (slice_index b.excess v - a);
  rooms = slice_set b.rooms v (slice_index b.rooms v - a);
}

-- a label rises
abbrev pub blocks_after_relabel : BlocksView → ℕ → ℕ → BlocksView
blocks_after_relabel b v d = record b { labels = slice_set b.labels v d }

-- an amount goes along a direction to the far end
abbrev pub blocks_after_push : BlocksView → Direction → ℕ → BlocksView
blocks_after_push b x a =
    let less = slice_set b.excess (near b.net x) (slice_index b.excess (near b.net x) - a) in
    let taken =
    put_lane b.lanes x (record (lane_at b.lanes x)
    { residual = (lane_at b.lanes x).residual - a }) in
    record b {
      excess = slice_set less (far b.net x) (slice_index less (far b.net x) + a);
      lanes =
          put_lane taken (opposite x)
          (record (lane_at taken (opposite x))
          { residual = (lane_at taken (opposite x)).residual + a });
    }

-- an amount leaves along a direction
abbrev pub blocks_after_send : BlocksView → Direction → ℕ → BlocksView
blocks_after_send b x a = record b {
  excess = slice_set b.excess (near b.net x) (slice_index b.excess (near b.net x) - a);
  lanes = put_lane b.lanes x (record (lane_at b.lanes x) {
    residual = (lane_at b.lanes x).residual - a;
    flight = Some (record { amount = a; label = slice_index b.labels (near b.net x) });
  });
}

-- the lane of the opposite direction, after a parcel was taken: it learns the parcel's label, but
-- not while a parcel of its own is out
abbrev pub lane_after_accept : Lane → ℕ → ℕ → Lane
lane_after_accept lane a d =
    record lane {
      residual = lane.residual + a;
      known = cond (is_some lane.flight) lane.known (max lane.known d);
    }

-- an amount comes along a direction: its opposite learns the label
abbrev pub blocks_after_accept : BlocksView → Direction → ℕ → ℕ → BlocksView
blocks_after_accept b x a d = record b {
  excess = slice_set b.excess (far b.net x) (slice_index b.excess (far b.net x) + a);
  lanes = put_lane b.lanes (opposite x) (lane_after_accept (lane_at b.lanes (opposite x)) a d);
}

-- the parcel that was out was taken
abbrev pub blocks_after_delivery : BlocksView → Direction → BlocksView
blocks_after_delivery b x =
    record b { lanes = put_lane b.lanes x (record (lane_at b.lanes x) { flight = None }) }

-- the parcel that was out comes back
abbrev pub blocks_after_return : BlocksView → Direction → ℕ → ℕ → BlocksView
blocks_after_return b x a told = record b {
  excess = slice_set b.excess (near b.net x) (slice_index b.excess (near b.net x) + a);
  lanes =
      put_lane b.lanes x
      (record { residual = (lane_at b.lanes x).residual + a; known = told; flight = None });
}

-- a direction once it knows the label of its far end, where it leads to another block; inner
-- directions know nothing
abbrev pub told_lane : BlocksView → Direction → Lane
told_lane b x =
    record (lane_at b.lanes x) {
      known = cond (is_border b.net b.blocks x) (slice_index b.labels (far b.net x))
          (lane_at b.lanes x).known;
    }

-- each direction to another block knows the label of its far end
abbrev pub blocks_with_known_labels : BlocksView → BlocksView
blocks_with_known_labels b = record b {
  lanes = record {
    forth = map (λ k. told_lane b (forward k)) (range_with_len 0 (length b.net.arcs));
    back = map (λ k. told_lane b (backward k)) (range_with_len 0 (length b.net.arcs));
  };
}
