use Rattle.std.proofs.Common.{refl}
use Rattle.global_relabel.proofs.Falling.{queue_room, falls_one}
use Rattle.global_relabel.proofs.block_labels.lower.Goals as goal

pub bounds-queue-end : goal.bounds-queue-end
bounds-queue-end c = queue_room c.args.labels.now c.args.queue.now c.args.end c.args.place c.args.label c.requires.node c.if-labels-place.false c.requires.ready

pub returns-clause-falls : goal.returns-clause-falls
returns-clause-falls c =
    falls_one c.args.labels.now c.args.queue.now c.args.end c.args.place c.args.label c.requires.node c.if-labels-place.false c.requires.ready _ refl
