use Rattle.std.proofs.Common.{◌≡◌, ◌+◌, ◌-◌, ◌≤◌, cond, nat_lt}
use Rattle.block_net.specs.Views.{room_in, first_lane, first_border, lane_allows, border_allows, least_span}
use Rattle.block_net.proofs.cells.Cells.highest_label.Given as goal

abbrev pub invariant-lanes : goal.invariant-lanes
invariant-lanes l = record {
  value : l.least ≡ least_span (lane_allows l.self) (first_lane l.self l.v) l.k (cond (nat_lt 0 (room_in l.self l.v)) 1 l.self.top);
  limit : l.least ≤ l.self.top;
}

abbrev pub invariant-borders : goal.invariant-borders
invariant-borders l = record {
  value : l.least ≡ least_span (border_allows l.self) (first_border l.self l.v) l.k
      (least_span (lane_allows l.self) (first_lane l.self l.v) (first_lane l.self (l.v + 1) - first_lane l.self l.v) (cond (nat_lt 0 (room_in l.self l.v)) 1 l.self.top));
  limit : l.least ≤ l.self.top;
}
