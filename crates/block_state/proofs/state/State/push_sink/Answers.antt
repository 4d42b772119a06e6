use Rattle.std.proofs.Common.{◌≡◌, ◌+◌, refl, sym, subst}
use Rattle.block_events.specs.States as core
use Rattle.block_events.specs.declared.event.Event.TheVariants.{PushSink}
use Rattle.block_events.specs.Events.{IsEnabled, effect}
use Rattle.block_events.specs.Effects.{state_of}
use Rattle.block_state.proofs.Keeping.{held_next}
use Rattle.block_state.proofs.state.State.push_sink.Goals as goal

pub invariant_of-self : goal.invariant_of-self
invariant_of-self c =
    let s : core.State = state_of c.self.inside.blocks c.self.inside.ways.messages c.self.inside.got in
    let on : IsEnabled s (PushSink c.args.v) = subst (λ (t : core.State). IsEnabled t (PushSink c.args.v)) (sym c.self.view_is) (c.may_push_sink.ensures.0 c.if-not-may_push_sink.false) in
    let is : state_of c.give-amount.new.self c.self.inside.ways.messages (c.self.inside.got + c.give-amount.result) ≡ effect s (PushSink c.args.v) = rw (c.give-amount.ensures.given, c.give-amount.ensures.amount) refl in
    held_next (PushSink c.args.v) _ c.self.invariant on is
