use Rattle.std.proofs.Common.{slice_index, sym, subst}
use Rattle.block_events.specs.declared.event.Event.TheVariants.{RaiseAll}
use Rattle.block_events.specs.States as core
use Rattle.block_events.specs.Reach.{AreExact}
use Rattle.block_events.specs.Events.{IsQuiet, Happens}
use Rattle.block_events.specs.Effects.{state_of}
use Rattle.block_events.proofs.Raising.{exact-le-top}
use Rattle.block_state.proofs.Raised.{told_happens, held_raised}
use Rattle.block_state.proofs.state.State.raise_to.Goals as goal

pub raise_to-requires : goal.raise_to-requires
raise_to-requires c =
    let exact = subst (λ (s : core.State). AreExact s c.args.labels.now) (sym c.self.view_is) c.requires.exact in
    let s : core.State = state_of c.self.inside.blocks c.self.inside.ways.messages c.self.inside.got in
    record { len = exact.len; limit = λ v l. exact-le-top s v (slice_index c.args.labels.now v) (exact.exact v l) }

pub invariant_of-self : goal.invariant_of-self
invariant_of-self c =
    let quiet = subst IsQuiet (sym c.self.view_is) c.requires.quiet in
    let exact = subst (λ (s : core.State). AreExact s c.args.labels.now) (sym c.self.view_is) c.requires.exact in
    held_raised _ c.self.invariant
    (told_happens c.self.inside.blocks c.self.inside.ways.messages c.self.inside.got c.raise_to.new.self c.args.labels.now quiet exact c.raise_to.ensures)

pub returns : goal.returns
returns c =
    let quiet = subst IsQuiet (sym c.self.view_is) c.requires.quiet in
    let exact = subst (λ (s : core.State). AreExact s c.args.labels.now) (sym c.self.view_is) c.requires.exact in
    let t : core.State = state_of c.raise_to.new.self c.self.inside.ways.messages c.self.inside.got in
    subst (λ (s : core.State). Happens s RaiseAll t) c.self.view_is
    (told_happens c.self.inside.blocks c.self.inside.ways.messages c.self.inside.got c.raise_to.new.self c.args.labels.now quiet exact c.raise_to.ensures)
