use Rattle.std.proofs.Common.{sym, subst}
use Rattle.block_events.specs.declared.event.Event.TheVariants.{RaiseAll}
use Rattle.block_events.specs.States as core
use Rattle.block_events.specs.Events.{IsQuiet, Happens}
use Rattle.block_events.specs.Effects.{state_of}
use Rattle.block_state.proofs.Raised.{raise_happens, held_raised}
use Rattle.block_state.proofs.state.State.raise_all.Goals as goal

pub invariant_of-self : goal.invariant_of-self
invariant_of-self c =
    let quiet = subst IsQuiet (sym c.self.view_is) (c.is_quiet.ensures.0 c.if-not-is_quiet.false) in
    held_raised _ c.self.invariant (raise_happens c.self.inside.blocks c.self.inside.ways.messages c.self.inside.got c.raise.new.self quiet c.raise.ensures)

pub returns : goal.returns
returns c =
    let quiet = subst IsQuiet (sym c.self.view_is) (c.is_quiet.ensures.0 c.if-not-is_quiet.false) in
    let t : core.State = state_of c.raise.new.self c.self.inside.ways.messages c.self.inside.got in
    subst (λ (s : core.State). Happens s RaiseAll t) c.self.view_is
    (raise_happens c.self.inside.blocks c.self.inside.ways.messages c.self.inside.got c.raise.new.self quiet c.raise.ensures)
