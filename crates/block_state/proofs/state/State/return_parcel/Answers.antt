use Rattle.std.proofs.Common.{◌≡◌, ◌∷◌, drop, sym, subst}
use Rattle.block_events.specs.declared.message.Message.TheVariants.{Refused}
use Rattle.block_events.specs.declared.event.Event.TheVariants.{Settle}
use Rattle.block_events.specs.States as core
use Rattle.block_events.specs.Effects.{state_of}
use Rattle.block_state.proofs.Keeping.{held_next}
use Rattle.block_state.proofs.Fronts.{refused_out, refused_amount, refused_label, may_settle, return_is}
use Rattle.block_state.proofs.state.State.return_parcel.Goals as goal

pub return_parcel-requires-clause-border : goal.return_parcel-requires-clause-border
return_parcel-requires-clause-border c =
    let b = c.args.from in
    let e = c.args.to in
    let x = c.args.direction in
    let s : core.State = state_of c.self.inside.blocks c.self.inside.ways.messages c.self.inside.got in
    let front : core.way_at s.ways b e ≡ Refused x c.args.amount c.args.label c.args.told ∷ drop 1 (core.way_at s.ways b e) = subst (λ (t : core.State). core.way_at t.ways b e ≡ Refused x c.args.amount c.args.label c.args.told ∷ drop 1 (core.way_at t.ways b e)) (sym c.self.view_is) c.requires.front in
    let out = refused_out b e x c.args.amount c.args.label c.args.told _ c.self.invariant front in
    record { direction = out.direction; border = out.border }

pub return_parcel-requires-clause-fits : goal.return_parcel-requires-clause-fits
return_parcel-requires-clause-fits c =
    let b = c.args.from in
    let e = c.args.to in
    let x = c.args.direction in
    let s : core.State = state_of c.self.inside.blocks c.self.inside.ways.messages c.self.inside.got in
    let front : core.way_at s.ways b e ≡ Refused x c.args.amount c.args.label c.args.told ∷ drop 1 (core.way_at s.ways b e) = subst (λ (t : core.State). core.way_at t.ways b e ≡ Refused x c.args.amount c.args.label c.args.told ∷ drop 1 (core.way_at t.ways b e)) (sym c.self.view_is) c.requires.front in
    refused_amount b e x c.args.amount c.args.label c.args.told _ c.self.invariant front

pub return_parcel-requires-clause-told : goal.return_parcel-requires-clause-told
return_parcel-requires-clause-told c =
    let b = c.args.from in
    let e = c.args.to in
    let x = c.args.direction in
    let s : core.State = state_of c.self.inside.blocks c.self.inside.ways.messages c.self.inside.got in
    let front : core.way_at s.ways b e ≡ Refused x c.args.amount c.args.label c.args.told ∷ drop 1 (core.way_at s.ways b e) = subst (λ (t : core.State). core.way_at t.ways b e ≡ Refused x c.args.amount c.args.label c.args.told ∷ drop 1 (core.way_at t.ways b e)) (sym c.self.view_is) c.requires.front in
    refused_label b e x c.args.amount c.args.label c.args.told _ c.self.invariant front

pub invariant_of-self : goal.invariant_of-self
invariant_of-self c =
    let b = c.args.from in
    let e = c.args.to in
    let x = c.args.direction in
    let s : core.State = state_of c.self.inside.blocks c.self.inside.ways.messages c.self.inside.got in
    let front : core.way_at s.ways b e ≡ Refused x c.args.amount c.args.label c.args.told ∷ drop 1 (core.way_at s.ways b e) = subst (λ (t : core.State). core.way_at t.ways b e ≡ Refused x c.args.amount c.args.label c.args.told ∷ drop 1 (core.way_at t.ways b e)) (sym c.self.view_is) c.requires.front in
    let way = subst (λ (t : core.State). core.IsWay t b e) (sym c.self.view_is) c.requires.way in
    rw c.take.ensures.rooms (held_next (Settle b e) _ c.self.invariant (may_settle s b e (Refused x c.args.amount c.args.label c.args.told) _ way front tt)
    (return_is c.self.inside.blocks _ _ _ _ b e x c.args.amount c.args.label c.args.told _ front c.return_parcel.ensures c.take.ensures.messages))
