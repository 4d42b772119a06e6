use Rattle.std.proofs.Common.{◌≡◌, Some, sym, ◌∙◌, ap, subst}
use Rattle.block_events.specs.declared.message.Message.{Message}
use Rattle.block_net.specs.Views.{CellsView}
use Rattle.block_discharge.specs.declared.letter.Letter.{Letter}
use Rattle.block_discharge.specs.Calls.{HasReceived}
use Rattle.block_discharge.proofs.Receiving.{parcel_letter}
use Rattle.block_discharge.proofs.Calling.{known_alike, some_or_none, received, NoneReceived, none_received}
use Rattle.block_discharge.proofs.calls.receive.Goals as goal

pub invariant_of-block : goal.invariant_of-block
invariant_of-block g c = known_alike c.block.inside.cells.block c.receive_parcel.new.cells.block c.block.inside.others.items c.receive_parcel.ensures.does.alike c.block.invariant

pub returns-clause-received : goal.returns-clause-received
returns-clause-received g c =
    let told = c.receive_parcel.ensures in
    let was = g.W.Ways.seen c.args.ways.now in
    let mid = g.W.Ways.seen c.front.new.self in
    let now = g.W.Ways.seen c.receive_parcel.new.ways in
    let old = c.block.inside.cells.block in
    let new = c.receive_parcel.new.cells.block in
    let letter : Letter = parcel_letter c.in-Parcel.direction c.in-Parcel.amount c.in-Parcel.label c.in-Some.letter.place in
    let front : mid.front c.args.from ≡ Some letter = sym c.front.ensures.value ∙ (c.in-Some.is ∙ ap (λ (m : Message). Some (record { message = m; place = c.in-Some.letter.place })) c.in-Parcel.is) in
    some_or_none c.receive_parcel.result _ _
    (λ some. subst (λ (b : CellsView). HasReceived b was c.args.from new now) c.block.view_is (received old new was mid now c.args.from letter c.front.ensures.look front (told.done some)))
    (λ none.
    let still = told.does.still none in
    subst (λ (b : CellsView). NoneReceived b was c.args.from new now) c.block.view_is (none_received old new was mid now c.args.from c.front.ensures.look (told.idle none) still.0 still.1))
