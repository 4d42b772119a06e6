use Rattle.std.proofs.Common.{length, subst}
use Rattle.block_events.specs.Effects.{BlocksView}
use Rattle.block_state.specs.Counting.{IsCounted}
use Rattle.block_state.proofs.Counts.{opened_held, opened_is}
use Rattle.block_state.proofs.state.State.of_blocks.Goals as goal

pub invariant_of-result : goal.invariant_of-result
invariant_of-result c =
    let net = c.args.blocks.net in
    let n = c.args.blocks.blocks in
    let first = c.requires.opening in
    let counted = subst (λ (b : BlocksView). IsCounted b (length b.net.arcs) c.in_ok-rooms.rooms) first c.in_ok-rooms.ensures in
    let made = opened_is net n c.args.blocks c.in_ok-ways.ways.messages c.in_ok-rooms.rooms first counted.square c.in_ok-ways.ensures.messages in
    rw (c.in_ok-ways.ensures.rooms, made) (opened_held net n c.in_ok-rooms.rooms c.requires.net c.requires.split counted)

pub returns : goal.returns
returns c =
    let first = c.requires.opening in
    let counted = subst (λ (b : BlocksView). IsCounted b (length b.net.arcs) c.in_ok-rooms.rooms) first c.in_ok-rooms.ensures in
    opened_is c.args.blocks.net c.args.blocks.blocks c.args.blocks c.in_ok-ways.ways.messages c.in_ok-rooms.rooms first counted.square c.in_ok-ways.ensures.messages
