use Rattle.std.proofs.Common.{◌≡◌, refl, sym, subst}
use Rattle.block_events.specs.States as core
use Rattle.block_events.specs.declared.event.Event.TheVariants.{PushInner}
use Rattle.block_events.specs.Events.{IsEnabled, effect}
use Rattle.block_events.specs.Effects.{state_of}
use Rattle.block_state.proofs.Keeping.{held_next}
use Rattle.block_state.proofs.state.State.push_inner.Goals as goal

pub invariant_of-self : goal.invariant_of-self
invariant_of-self c =
    let x = c.args.direction in
    let s : core.State = state_of c.self.inside.blocks c.self.inside.ways.messages c.self.inside.got in
    let on : IsEnabled s (PushInner x) = subst (λ (t : core.State). IsEnabled t (PushInner x)) (sym c.self.view_is) (c.may_push_inner.ensures.0 c.if-not-may_push_inner.false) in
    let is : state_of c.push.new.self c.self.inside.ways.messages c.self.inside.got ≡ effect s (PushInner x) = rw c.push.ensures refl in
    held_next (PushInner x) _ c.self.invariant on is
