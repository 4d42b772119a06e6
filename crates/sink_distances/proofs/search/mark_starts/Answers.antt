use Rattle.std.proofs.Common.{rules}
use Rattle.sink_distances.proofs.Searching.{starts_begin}
use Rattle.sink_distances.proofs.search.mark_starts.Goals as goal

pub loop-v-init : goal.loop-v-init
loop-v-init c =
    starts_begin c.args.net.now c.args.rooms.now c.args.labels.now c.args.order.now c.requires.len c.requires.order_len c.requires.labels

-- found without help too: written so that a wrong step is refused at once
pub loop-v-preserved : goal.loop-v-preserved
loop-v-preserved c = search rules
