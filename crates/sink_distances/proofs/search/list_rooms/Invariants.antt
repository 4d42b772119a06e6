use Rattle.std.proofs.Common.{◌≡◌, length}
use Rattle.sink_distances.specs.Search.{AreRoomy}
use Rattle.sink_distances.proofs.search.list_rooms.Given as goal

abbrev pub invariant-nodes : goal.invariant-nodes
invariant-nodes l = record {
  len : length l.order ≡ length l.rooms;
  roomy : AreRoomy l.rooms l.v l.count l.order;
}
