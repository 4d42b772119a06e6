use Rattle.node_buckets.proofs.Linking.{unlinked_circles}
use Rattle.node_buckets.proofs.circles.relink.Goals as goal

pub link-requires-clause-circles : goal.link-requires-clause-circles
link-requires-clause-circles c =
    rw (c.unlink.ensures.next, c.unlink.ensures.prev) (unlinked_circles c.args.next.now c.args.prev.now c.args.place c.requires.place c.requires.circles)
