use Rattle.std.proofs.Common.{◌≡◌, refl, sym, subst, arith}
use Rattle.block_events.specs.States as core
use Rattle.block_events.specs.declared.event.Event.TheVariants.{Relabel}
use Rattle.block_events.specs.Events.{IsActive, IsEnabled, effect, highest_label}
use Rattle.block_events.specs.Effects.{state_of}
use Rattle.block_state.proofs.Keeping.{held_next}
use Rattle.block_state.proofs.state.State.relabel.Goals as goal

pub invariant_of-self : goal.invariant_of-self
invariant_of-self c =
    let v = c.args.v in
    let s : core.State = state_of c.self.inside.blocks c.self.inside.ways.messages c.self.inside.got in
    let is : c.highest_label-highest.result ≡ highest_label s v = c.highest_label-highest.ensures.value in
    let active = subst (λ (t : core.State). IsActive t v) (sym c.self.view_is) (c.is_active.ensures.0 c.if-not-is_active.false) in
    let on : IsEnabled s (Relabel v) = (active, omega (arith, is, c.label.ensures.value, c.if-highest-label.false)) in
    let made : state_of c.relabel.new.self c.self.inside.ways.messages c.self.inside.got ≡ effect s (Relabel v) = rw (c.relabel.ensures, is) refl in
    held_next (Relabel v) _ c.self.invariant on made
