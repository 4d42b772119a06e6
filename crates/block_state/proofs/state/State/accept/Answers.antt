use Rattle.std.proofs.Common.{◌≡◌, ◌∷◌, drop, sym, subst, arith, rules}
use Rattle.std.proofs.lemmas.Grind.{common_steps}
use Rattle.block_events.specs.declared.message.Message.{Message}
use Rattle.block_events.specs.declared.message.Message.TheVariants.{Parcel}
use Rattle.block_events.specs.States as core
use Rattle.block_events.specs.Effects.{state_of}
use Rattle.block_state.proofs.Fronts.{parcel_out}
use Rattle.block_state.proofs.state.State.accept.Goals as goal

pub may_accept-requires : goal.may_accept-requires
may_accept-requires c =
    let b = c.args.from in
    let e = c.args.to in
    let m : Message = Parcel c.in-Some-Parcel.direction c.in-Some-Parcel.amount c.in-Some-Parcel.label in
    let s : core.State = state_of c.self.inside.blocks c.self.inside.ways.messages c.self.inside.got in
    let now : core.way_at c.args.self.now.ways b e ≡ m ∷ drop 1 (core.way_at c.args.self.now.ways b e) = grind (arith, common_steps) in
    let front : core.way_at s.ways b e ≡ m ∷ drop 1 (core.way_at s.ways b e) = subst (λ (t : core.State). core.way_at t.ways b e ≡ m ∷ drop 1 (core.way_at t.ways b e)) (sym c.self.view_is) now in
    let out = parcel_out b e _ _ _ _ c.self.invariant front in
    record { direction = out.direction; border = out.border }

-- found without help too: written so that a wrong step is refused at once
pub take_parcel-requires-clause-label : goal.take_parcel-requires-clause-label
take_parcel-requires-clause-label c = search rules
