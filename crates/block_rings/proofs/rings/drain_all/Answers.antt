use Rattle.std.proofs.Common.{◌+◌, ◌<◌, List, length, map, drop, sym, ◌∙◌, subst, arith}
use Rattle.std.proofs.lemmas.Grind.{common_steps}
use Rattle.block_events.specs.declared.message.Message.{Message}
use Rattle.block_rings.specs.declared.pair.PortPair.{PortPair}
use Rattle.block_rings.specs.Links.{Link, link, AreLinks}
use Rattle.block_rings.specs.Draining.{AreDraining}
use Rattle.block_rings.proofs.Draining.{fitting, draining_more}
use Rattle.block_rings.proofs.Keeping.{drained_more}
use Rattle.block_rings.proofs.Seeing.{links_from, links_behind, same_behind}
use Rattle.block_rings.proofs.rings.drain_all.Goals as goal

pub drain-requires-clause-order : goal.drain-requires-clause-order
drain-requires-clause-order c =
    let now = c.loop-k.pairs.items in
    let low : c.loop-k.k < length now = grind (arith, common_steps) in
    (subst (AreLinks (length c.args.ways.now.messages)) (links_from now c.loop-k.k c.index_mut.result.now low c.index_mut.ensures.value) c.loop-k.invariant.draining.linked).0

pub drain-requires-clause-blocks : goal.drain-requires-clause-blocks
drain-requires-clause-blocks c =
    let now = c.loop-k.pairs.items in
    let low : c.loop-k.k < length now = grind (arith, common_steps) in
    let are = subst (AreLinks (length c.args.ways.now.messages)) (links_from now c.loop-k.k c.index_mut.result.now low c.index_mut.ensures.value) c.loop-k.invariant.draining.linked in
    omega (arith, are.1, c.loop-k.invariant.draining.square.rows)

pub drain-requires-clause-room : goal.drain-requires-clause-room
drain-requires-clause-room c =
    let links = λ (pairs : List PortPair). map (λ (p : PortPair). link p) pairs in
    let n = length c.args.ways.now.messages in
    let was = c.loop-k.invariant in
    let first = links c.args.pairs.now.items in
    let now = c.loop-k.pairs.items in
    let k = c.loop-k.k in
    let p = c.index_mut.result.now in
    let low : k < length now = grind (arith, common_steps) in
    rw was.rooms
    (fitting n c.args.ways.now.rooms first (drop (k + 1) (links now)) (link p) c.loop-k.ways.messages
    (subst (λ (ls : List Link). AreDraining n first ls c.loop-k.ways.messages) (links_from now k p low c.index_mut.ensures.value) was.draining) c.requires.room)

pub loop-k-preserved : goal.loop-k-preserved
loop-k-preserved c =
    let links = λ (pairs : List PortPair). map (λ (p : PortPair). link p) pairs in
    let n = length c.args.ways.now.messages in
    let was = c.loop-k.invariant in
    let first = links c.args.pairs.now.items in
    let now = c.loop-k.pairs.items in
    let k = c.loop-k.k in
    let p = c.index_mut.result.now in
    let low : k < length now = grind (arith, common_steps) in
    let behind = links_behind now k c.drain.new.self in
    record {
      rest = behind ∙ same_behind (links now) first k was.rest;
      long = grind (arith, common_steps);
      draining = subst (λ (ls : List Link). AreDraining n first ls c.drain.new.ways.messages) (sym behind)
          (subst (λ (ways : List (List (List Message))). AreDraining n first (drop (k + 1) (links now)) ways) (sym c.drain.ensures.messages)
          (draining_more n c.args.ways.now.rooms first (drop (k + 1) (links now)) (link p) c.loop-k.ways.messages
          (subst (λ (ls : List Link). AreDraining n first ls c.loop-k.ways.messages) (links_from now k p low c.index_mut.ensures.value) was.draining)));
      rooms = c.drain.ensures.rooms ∙ was.rooms;
      drained = drained_more now k c.drain.new.self low c.drain.ensures.drained was.drained;
    }
