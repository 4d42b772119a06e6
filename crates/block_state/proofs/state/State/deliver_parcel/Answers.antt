use Rattle.std.proofs.Common.{◌≡◌, ◌∷◌, drop, sym, subst}
use Rattle.block_events.specs.declared.message.Message.TheVariants.{Accepted}
use Rattle.block_events.specs.declared.event.Event.TheVariants.{Settle}
use Rattle.block_events.specs.States as core
use Rattle.block_events.specs.Effects.{state_of}
use Rattle.block_state.proofs.Keeping.{held_next}
use Rattle.block_state.proofs.Fronts.{accepted_out, may_settle, delivery_is}
use Rattle.block_state.proofs.state.State.deliver_parcel.Goals as goal

pub deliver_parcel-requires : goal.deliver_parcel-requires
deliver_parcel-requires c =
    let b = c.args.from in
    let e = c.args.to in
    let x = c.args.direction in
    let s : core.State = state_of c.self.inside.blocks c.self.inside.ways.messages c.self.inside.got in
    let front : core.way_at s.ways b e ≡ Accepted x c.args.amount ∷ drop 1 (core.way_at s.ways b e) = subst (λ (t : core.State). core.way_at t.ways b e ≡ Accepted x c.args.amount ∷ drop 1 (core.way_at t.ways b e)) (sym c.self.view_is) c.requires.front in
    let out = (accepted_out b e x c.args.amount _ c.self.invariant front).1 in
    record { direction = out.direction; border = out.border }

pub invariant_of-self : goal.invariant_of-self
invariant_of-self c =
    let b = c.args.from in
    let e = c.args.to in
    let x = c.args.direction in
    let s : core.State = state_of c.self.inside.blocks c.self.inside.ways.messages c.self.inside.got in
    let front : core.way_at s.ways b e ≡ Accepted x c.args.amount ∷ drop 1 (core.way_at s.ways b e) = subst (λ (t : core.State). core.way_at t.ways b e ≡ Accepted x c.args.amount ∷ drop 1 (core.way_at t.ways b e)) (sym c.self.view_is) c.requires.front in
    let way = subst (λ (t : core.State). core.IsWay t b e) (sym c.self.view_is) c.requires.way in
    rw c.take.ensures.rooms (held_next (Settle b e) _ c.self.invariant (may_settle s b e (Accepted x c.args.amount) _ way front tt)
    (delivery_is c.self.inside.blocks _ _ _ _ b e x c.args.amount _ front c.deliver_parcel.ensures c.take.ensures.messages))
