use Rattle.std.proofs.Common.{◌∙◌}
use Rattle.sink_distances.proofs.Listing.{begun_none}
use Rattle.sink_distances.proofs.search.tally_starts.Goals as goal

pub starts-init : goal.starts-init
starts-init c =
    begun_none c.args.net.now c.args.rooms.now c.args.labels.now c.list_rooms-many.new.order c.list_rooms-many.result
    c.requires.len (c.list_rooms-many.auto.order ∙ c.requires.order_len) c.requires.labels
