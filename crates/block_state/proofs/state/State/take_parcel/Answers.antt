use Rattle.std.proofs.Common.{◌≡◌, ◌+◌, ◌∷◌, drop, sym, ◌∙◌, ap, subst}
use Rattle.block_events.specs.declared.message.Message.TheVariants.{Parcel}
use Rattle.block_events.specs.declared.event.Event.TheVariants.{Accept}
use Rattle.block_events.specs.Directions.{far}
use Rattle.block_events.specs.States as core
use Rattle.block_events.specs.Effects.{state_of}
use Rattle.block_state.proofs.Keeping.{held_next}
use Rattle.block_state.proofs.Fronts.{parcel_out, parcel_arc, may_accept, accept_room, accept_amount, accept_label, accept_is}
use Rattle.block_state.proofs.state.State.take_parcel.Goals as goal

pub accept-accepted-requires-clause-border : goal.accept-accepted-requires-clause-border
accept-accepted-requires-clause-border c =
    let b = c.args.from in
    let e = c.args.to in
    let x = c.args.direction in
    let s : core.State = state_of c.self.inside.blocks c.self.inside.ways.messages c.self.inside.got in
    let front : core.way_at s.ways b e ≡ Parcel x c.args.amount c.args.label ∷ drop 1 (core.way_at s.ways b e) = subst (λ (t : core.State). core.way_at t.ways b e ≡ Parcel x c.args.amount c.args.label ∷ drop 1 (core.way_at t.ways b e)) (sym c.self.view_is) c.requires.front in
    let out = parcel_out b e x c.args.amount c.args.label _ c.self.invariant front in
    record { direction = out.direction; border = out.border }

pub accept-accepted-requires-clause-fits : goal.accept-accepted-requires-clause-fits
accept-accepted-requires-clause-fits c =
    let b = c.args.from in
    let e = c.args.to in
    let x = c.args.direction in
    let s : core.State = state_of c.self.inside.blocks c.self.inside.ways.messages c.self.inside.got in
    let front : core.way_at s.ways b e ≡ Parcel x c.args.amount c.args.label ∷ drop 1 (core.way_at s.ways b e) = subst (λ (t : core.State). core.way_at t.ways b e ≡ Parcel x c.args.amount c.args.label ∷ drop 1 (core.way_at t.ways b e)) (sym c.self.view_is) c.requires.front in
    let level = subst (λ (t : core.State). core.label_of t (far t.net x) + 1 ≡ c.args.label) (sym c.self.view_is) c.requires.label in
    accept_amount b e x c.args.amount c.args.label _ c.self.invariant front level

pub accept-accepted-requires-clause-label : goal.accept-accepted-requires-clause-label
accept-accepted-requires-clause-label c =
    let b = c.args.from in
    let e = c.args.to in
    let x = c.args.direction in
    let s : core.State = state_of c.self.inside.blocks c.self.inside.ways.messages c.self.inside.got in
    let front : core.way_at s.ways b e ≡ Parcel x c.args.amount c.args.label ∷ drop 1 (core.way_at s.ways b e) = subst (λ (t : core.State). core.way_at t.ways b e ≡ Parcel x c.args.amount c.args.label ∷ drop 1 (core.way_at t.ways b e)) (sym c.self.view_is) c.requires.front in
    let level = subst (λ (t : core.State). core.label_of t (far t.net x) + 1 ≡ c.args.label) (sym c.self.view_is) c.requires.label in
    accept_label b e x c.args.amount c.args.label _ c.self.invariant front level

pub put-requires-clause-arc : goal.put-requires-clause-arc
put-requires-clause-arc c =
    let b = c.args.from in
    let e = c.args.to in
    let x = c.args.direction in
    let s : core.State = state_of c.self.inside.blocks c.self.inside.ways.messages c.self.inside.got in
    let front : core.way_at s.ways b e ≡ Parcel x c.args.amount c.args.label ∷ drop 1 (core.way_at s.ways b e) = subst (λ (t : core.State). core.way_at t.ways b e ≡ Parcel x c.args.amount c.args.label ∷ drop 1 (core.way_at t.ways b e)) (sym c.self.view_is) c.requires.front in
    rw c.accept-accepted.ensures.answer (parcel_arc b e x c.args.amount c.args.label _ c.self.invariant front)

pub put-requires-clause-room : goal.put-requires-clause-room
put-requires-clause-room c =
    let b = c.args.from in
    let e = c.args.to in
    let x = c.args.direction in
    let s : core.State = state_of c.self.inside.blocks c.self.inside.ways.messages c.self.inside.got in
    let front : core.way_at s.ways b e ≡ Parcel x c.args.amount c.args.label ∷ drop 1 (core.way_at s.ways b e) = subst (λ (t : core.State). core.way_at t.ways b e ≡ Parcel x c.args.amount c.args.label ∷ drop 1 (core.way_at t.ways b e)) (sym c.self.view_is) c.requires.front in
    let way = subst (λ (t : core.State). core.IsWay t b e) (sym c.self.view_is) c.requires.way in
    let level = subst (λ (t : core.State). core.label_of t (far t.net x) + 1 ≡ c.args.label) (sym c.self.view_is) c.requires.label in
    rw (c.take.ensures.messages, c.take.ensures.rooms) (accept_room b e x c.args.amount c.args.label _ c.self.invariant way front level)

pub invariant_of-self : goal.invariant_of-self
invariant_of-self c =
    let b = c.args.from in
    let e = c.args.to in
    let x = c.args.direction in
    let s : core.State = state_of c.self.inside.blocks c.self.inside.ways.messages c.self.inside.got in
    let front : core.way_at s.ways b e ≡ Parcel x c.args.amount c.args.label ∷ drop 1 (core.way_at s.ways b e) = subst (λ (t : core.State). core.way_at t.ways b e ≡ Parcel x c.args.amount c.args.label ∷ drop 1 (core.way_at t.ways b e)) (sym c.self.view_is) c.requires.front in
    let way = subst (λ (t : core.State). core.IsWay t b e) (sym c.self.view_is) c.requires.way in
    let level = subst (λ (t : core.State). core.label_of t (far t.net x) + 1 ≡ c.args.label) (sym c.self.view_is) c.requires.label in
    let put = c.put.ensures.messages ∙ ap (core.put_message c.take.new.self.messages e b) c.accept-accepted.ensures.answer in
    rw (c.put.ensures.rooms, c.take.ensures.rooms) (held_next (Accept b e) _ c.self.invariant (may_accept s b e x c.args.amount c.args.label _ way front level)
    (accept_is c.self.inside.blocks _ _ _ _ _ b e x c.args.amount c.args.label _ front c.accept-accepted.ensures.accepted c.take.ensures.messages put))
