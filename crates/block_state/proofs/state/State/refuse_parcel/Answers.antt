use Rattle.std.proofs.Common.{◌≡◌, ◌≤◌, ◌∷◌, drop, sym, ◌∙◌, ap, subst, arith}
use Rattle.block_events.specs.declared.message.Message.{Message}
use Rattle.block_events.specs.declared.message.Message.TheVariants.{Parcel}
use Rattle.block_events.specs.declared.event.Event.TheVariants.{Refuse}
use Rattle.block_events.specs.Directions.{far}
use Rattle.block_events.specs.States as core
use Rattle.block_events.specs.Soundness.{direction_of}
use Rattle.block_events.specs.Effects.{state_of}
use Rattle.block_state.proofs.Keeping.{held_next}
use Rattle.block_state.proofs.Fronts.{parcel_out, parcel_arc, may_refuse, refuse_room, refuse_is}
use Rattle.block_state.proofs.state.State.refuse_parcel.Goals as goal

pub refusal-refused-requires : goal.refusal-refused-requires
refusal-refused-requires c =
    let b = c.args.from in
    let e = c.args.to in
    let x = c.args.direction in
    let s : core.State = state_of c.self.inside.blocks c.self.inside.ways.messages c.self.inside.got in
    let front : core.way_at s.ways b e ≡ Parcel x c.args.amount c.args.label ∷ drop 1 (core.way_at s.ways b e) = subst (λ (t : core.State). core.way_at t.ways b e ≡ Parcel x c.args.amount c.args.label ∷ drop 1 (core.way_at t.ways b e)) (sym c.self.view_is) c.requires.front in
    let out = parcel_out b e x c.args.amount c.args.label _ c.self.invariant front in
    record { direction = out.direction; border = out.border }

pub put-requires-clause-arc : goal.put-requires-clause-arc
put-requires-clause-arc c =
    let b = c.args.from in
    let e = c.args.to in
    let x = c.args.direction in
    let s : core.State = state_of c.self.inside.blocks c.self.inside.ways.messages c.self.inside.got in
    let front : core.way_at s.ways b e ≡ Parcel x c.args.amount c.args.label ∷ drop 1 (core.way_at s.ways b e) = subst (λ (t : core.State). core.way_at t.ways b e ≡ Parcel x c.args.amount c.args.label ∷ drop 1 (core.way_at t.ways b e)) (sym c.self.view_is) c.requires.front in
    let arc = parcel_arc b e x c.args.amount c.args.label _ c.self.invariant front in
    omega (arith, arc, ap (λ (m : Message). (direction_of m).arc) c.refusal-refused.ensures)

pub put-requires-clause-room : goal.put-requires-clause-room
put-requires-clause-room c =
    let b = c.args.from in
    let e = c.args.to in
    let x = c.args.direction in
    let s : core.State = state_of c.self.inside.blocks c.self.inside.ways.messages c.self.inside.got in
    let front : core.way_at s.ways b e ≡ Parcel x c.args.amount c.args.label ∷ drop 1 (core.way_at s.ways b e) = subst (λ (t : core.State). core.way_at t.ways b e ≡ Parcel x c.args.amount c.args.label ∷ drop 1 (core.way_at t.ways b e)) (sym c.self.view_is) c.requires.front in
    let way = subst (λ (t : core.State). core.IsWay t b e) (sym c.self.view_is) c.requires.way in
    let above = subst (λ (t : core.State). c.args.label ≤ core.label_of t (far t.net x)) (sym c.self.view_is) c.requires.label in
    rw (c.take.ensures.messages, c.take.ensures.rooms) (refuse_room b e x c.args.amount c.args.label _ c.self.invariant way front above)

pub invariant_of-self : goal.invariant_of-self
invariant_of-self c =
    let b = c.args.from in
    let e = c.args.to in
    let x = c.args.direction in
    let s : core.State = state_of c.self.inside.blocks c.self.inside.ways.messages c.self.inside.got in
    let front : core.way_at s.ways b e ≡ Parcel x c.args.amount c.args.label ∷ drop 1 (core.way_at s.ways b e) = subst (λ (t : core.State). core.way_at t.ways b e ≡ Parcel x c.args.amount c.args.label ∷ drop 1 (core.way_at t.ways b e)) (sym c.self.view_is) c.requires.front in
    let way = subst (λ (t : core.State). core.IsWay t b e) (sym c.self.view_is) c.requires.way in
    let above = subst (λ (t : core.State). c.args.label ≤ core.label_of t (far t.net x)) (sym c.self.view_is) c.requires.label in
    let put = c.put.ensures.messages ∙ ap (core.put_message c.take.new.self.messages e b) c.refusal-refused.ensures in
    rw (c.put.ensures.rooms, c.take.ensures.rooms) (held_next (Refuse b e) _ c.self.invariant (may_refuse s b e x c.args.amount c.args.label _ way front above)
    (refuse_is c.self.inside.blocks _ _ _ _ b e x c.args.amount c.args.label _ front c.take.ensures.messages put))
