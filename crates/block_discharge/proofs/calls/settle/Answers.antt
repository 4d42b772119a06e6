use Rattle.std.proofs.Common.{◌≡◌, Some, sym, ◌∙◌, ap, subst}
use Rattle.block_events.specs.declared.message.Message.{Message}
use Rattle.block_net.specs.Views.{CellsView}
use Rattle.block_discharge.specs.declared.block.Block.TheInside.{Inside}
use Rattle.block_discharge.specs.declared.letter.Letter.{Letter}
use Rattle.block_discharge.specs.Calls.{HasSettled}
use Rattle.block_discharge.specs.Turns.{IsKnown}
use Rattle.block_discharge.proofs.Receiving.{parcel_letter, accepted_letter, refused_letter}
use Rattle.block_discharge.proofs.Calling.{known_alike, some_or_none, has_settled, NothingSettles, nothing_settles, parcel_settles_nothing}
use Rattle.block_discharge.proofs.calls.settle.Goals.{in-Parcel, in-Accepted, in-Refused}
use Rattle.block_discharge.proofs.calls.settle.Goals as goal

pub invariant_of-block : goal.invariant_of-block
invariant_of-block g c = elim c.match-letter.branch [
  | in-Parcel w ↦ subst (λ (i : Inside). IsKnown i.cells.block i.others.items) (sym w.block-inside-is) c.block.invariant
  | in-Accepted w ↦ subst (λ (i : Inside). IsKnown i.cells.block i.others.items) (sym w.block-inside-is)
      (known_alike c.block.inside.cells.block w.receive_accepted.new.cells.block c.block.inside.others.items w.receive_accepted.ensures.does.alike c.block.invariant)
  | in-Refused w ↦ subst (λ (i : Inside). IsKnown i.cells.block i.others.items) (sym w.block-inside-is)
      (known_alike c.block.inside.cells.block w.receive_refused.new.cells.block c.block.inside.others.items w.receive_refused.ensures.does.alike c.block.invariant)
]

pub returns-clause-ended : goal.returns-clause-ended
returns-clause-ended g c =
    let was = g.W.Ways.seen c.args.ways.now in
    let mid = g.W.Ways.seen c.front.new.self in
    let old = c.block.inside.cells.block in
    let place = c.in-Some.letter.place in
    let front_of : (m : Message) → c.in-Some.letter.message ≡ m → mid.front c.args.from ≡ Some (record { message = m; place = place }) = λ m is.
    sym c.front.ensures.value ∙ (c.in-Some.is ∙ ap (λ (x : Message). Some (record { message = x; place = place })) is) in
    elim c.match-letter.branch [
      | in-Parcel w ↦
          let letter : Letter = parcel_letter w.in-Parcel.direction w.in-Parcel.amount w.in-Parcel.label place in
          rw (w.result-is, w.ways-is, w.block-inside-is)
          (subst (λ (b : CellsView). NothingSettles b was c.args.from old mid) c.block.view_is (parcel_settles_nothing old was mid c.args.from letter c.front.ensures.look (front_of letter.message w.in-Parcel.is) tt))
      | in-Accepted w ↦
          let told = w.receive_accepted.ensures in
          let now = g.W.Ways.seen w.receive_accepted.new.ways in
          let new = w.receive_accepted.new.cells.block in
          let letter : Letter = accepted_letter w.in-Accepted.direction w.in-Accepted.amount place in
          rw (w.result-is, w.ways-is, w.block-inside-is)
          (some_or_none w.receive_accepted.result _ _
          (λ some. subst (λ (b : CellsView). HasSettled b was c.args.from new now) c.block.view_is (has_settled old new was mid now c.args.from letter c.front.ensures.look (front_of letter.message w.in-Accepted.is) (told.done some)))
          (λ none.
          let still = told.does.still none in
          subst (λ (b : CellsView). NothingSettles b was c.args.from new now) c.block.view_is (nothing_settles old new was mid now c.args.from c.front.ensures.look (told.idle none) still.0 still.1)))
      | in-Refused w ↦
          let told = w.receive_refused.ensures in
          let now = g.W.Ways.seen w.receive_refused.new.ways in
          let new = w.receive_refused.new.cells.block in
          let letter : Letter = refused_letter w.in-Refused.direction w.in-Refused.amount w.in-Refused.label w.in-Refused.told place in
          rw (w.result-is, w.ways-is, w.block-inside-is)
          (some_or_none w.receive_refused.result _ _
          (λ some. subst (λ (b : CellsView). HasSettled b was c.args.from new now) c.block.view_is (has_settled old new was mid now c.args.from letter c.front.ensures.look (front_of letter.message w.in-Refused.is) (told.done some)))
          (λ none.
          let still = told.does.still none in
          subst (λ (b : CellsView). NothingSettles b was c.args.from new now) c.block.view_is (nothing_settles old new was mid now c.args.from c.front.ensures.look (told.idle none) still.0 still.1)))
    ]
