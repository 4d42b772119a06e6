use Rattle.sink_distances.proofs.Listing.{roomy_none}
use Rattle.sink_distances.proofs.search.list_rooms.Goals as goal

pub nodes-init : goal.nodes-init
nodes-init c = record { len = c.requires.len; roomy = roomy_none c.args.rooms.now c.args.order.now }
