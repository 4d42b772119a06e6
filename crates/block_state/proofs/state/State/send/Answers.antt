use Rattle.std.proofs.Common.{◌≡◌, slice_index, refl, sym, ◌∙◌, ap, subst}
use Rattle.block_events.specs.States as core
use Rattle.block_events.specs.declared.event.Event.TheVariants.{Send}
use Rattle.block_events.specs.Events.{IsEnabled}
use Rattle.block_events.specs.Effects.{state_of}
use Rattle.block_state.proofs.Keeping.{held_next}
use Rattle.block_state.proofs.Effects.{send_room, sent_is}
use Rattle.block_state.proofs.state.State.send.Goals as goal

pub put-requires-clause-room : goal.put-requires-clause-room
put-requires-clause-room c =
    let x = c.args.direction in
    let s : core.State = state_of c.self.inside.blocks c.self.inside.ways.messages c.self.inside.got in
    let on : IsEnabled s (Send x) = subst (λ (t : core.State). IsEnabled t (Send x)) (sym c.self.view_is) (c.may_send.ensures.0 c.if-not-may_send.false) in
    let from : c.node_block-from.result ≡ core.near_block s.net s.blocks x = c.node_block-from.ensures.value ∙ ap (core.block_of s.net s.blocks) c.near-near.ensures.value in
    let to : c.node_block-to.result ≡ core.far_block s.net s.blocks x = c.node_block-to.ensures.value ∙ ap (core.block_of s.net s.blocks) c.far-far.ensures.value in
    rw (from, to) (send_room x c.self.invariant on)

pub invariant_of-self : goal.invariant_of-self
invariant_of-self c =
    let x = c.args.direction in
    let s : core.State = state_of c.self.inside.blocks c.self.inside.ways.messages c.self.inside.got in
    let on : IsEnabled s (Send x) = subst (λ (t : core.State). IsEnabled t (Send x)) (sym c.self.view_is) (c.may_send.ensures.0 c.if-not-may_send.false) in
    let parcel = c.send-parcel.ensures.parcel in
    let put = c.put.ensures.messages ∙ ap (core.put_message c.self.inside.ways.messages c.node_block-from.result c.node_block-to.result) parcel in
    let made = sent_is c.self.inside.blocks c.send-parcel.new.self c.self.inside.ways.messages c.put.new.self.messages c.self.inside.got x
    c.near-near.result c.far-far.result _ _ _ c.node_block-from.result c.node_block-to.result _ c.near-near.ensures.value c.far-far.ensures.value
    (ap (slice_index c.self.inside.blocks.labels) (sym c.near-near.ensures.value)) (ap (slice_index c.self.inside.blocks.excess) (sym c.near-near.ensures.value)) refl refl
    c.node_block-from.ensures.value c.node_block-to.ensures.value c.send-parcel.ensures.sent put in
    rw c.put.ensures.rooms (held_next (Send x) _ c.self.invariant on made)
