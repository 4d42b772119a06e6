use Rattle.sink_distances.specs.Search.{found_of}
use Rattle.sink_distances.proofs.Order.{grows_mark}
use Rattle.sink_distances.proofs.search.put.Goals as goal

pub returns-clause-grows : goal.returns-clause-grows
returns-clause-grows c =
    grows_mark (found_of c.args.labels.now c.args.order.now c.args.count) c.args.v c.args.label (record {
      order = c.requires.ready.order;
      below = c.requires.ready.below;
      node = c.requires.node;
      none = c.requires.none;
      fits = c.requires.ready.next;
    })
