use Rattle.std.proofs.Common.{◌≡◌, inl, inr, true, subst, arith}
use Rattle.std.proofs.lemmas.Grind.{common_steps}
use Rattle.block_events.specs.declared.message.Message.TheVariants.{Parcel, Refused}
use Rattle.block_events.specs.Directions.{opposite}
use Rattle.block_net.specs.Views.{CellsView, label_in, border_in}
use Rattle.block_discharge.specs.Steps.{MayAcceptAt, MayRefuseAt}
use Rattle.block_discharge.proofs.Receiving.{done_accept, done_refuse, does_accept, does_refuse}
use Rattle.block_discharge.proofs.messages.receive_parcel.Goals as goal

pub returns-then-accepts-clause-does : goal.returns-then-accepts-clause-does
returns-then-accepts-clause-does g c =
    let may = subst (λ (b : CellsView). MayAcceptAt b c.args.from c.args.place (Parcel c.args.direction c.args.amount c.args.label)) c.cells.ensures (c.may_accept-accepts.ensures.0 c.if-accepts.true) in
    let took = c.take.ensures.take _ (c.put.ensures.put.front _ _ (c.room.ensures.look.front _ _ c.requires.front)) in
    does_accept c.args.cells.now.block c.accept-accepted.new.self.block _ _ _ _ c.args.from c.args.direction c.args.amount c.args.label c.args.place _
    may c.accept-accepted.ensures.block c.accept-accepted.ensures.answer c.room.ensures.look c.put.ensures.put took

pub returns-else-accepts-clause-does : goal.returns-else-accepts-clause-does
returns-else-accepts-clause-does g c =
    let on : c.may_refuse-refuses.result ≡ true = grind (arith, common_steps) in
    let may = subst (λ (b : CellsView). MayRefuseAt b c.args.from c.args.place (Parcel c.args.direction c.args.amount c.args.label)) c.cells-2.ensures (c.may_refuse-refuses.ensures.0 on) in
    let is = subst (λ (b : CellsView). c.refusal-refused.result ≡ Refused (opposite (border_in b c.args.place).direction) c.args.amount c.args.label (label_in b (border_in b c.args.place).near)) c.cells-else-accepts.ensures c.refusal-refused.ensures in
    let took = c.take-else-accepts.ensures.take _ (c.put-else-accepts.ensures.put.front _ _ (c.room.ensures.look.front _ _ c.requires.front)) in
    does_refuse c.args.cells.now.block _ _ _ _ c.args.from c.args.direction c.args.amount c.args.label c.args.place _
    may is c.room.ensures.look c.put-else-accepts.ensures.put took

pub returns-then-accepts-clause-done : goal.returns-then-accepts-clause-done
returns-then-accepts-clause-done g c = λ some.
    let may = subst (λ (b : CellsView). MayAcceptAt b c.args.from c.args.place (Parcel c.args.direction c.args.amount c.args.label)) c.cells.ensures (c.may_accept-accepts.ensures.0 c.if-accepts.true) in
    let took = c.take.ensures.take _ (c.put.ensures.put.front _ _ (c.room.ensures.look.front _ _ c.requires.front)) in
    inl (done_accept c.args.cells.now.block c.accept-accepted.new.self.block _ _ _ _ c.args.from c.args.direction c.args.amount c.args.label c.args.place _
    may c.accept-accepted.ensures.block c.accept-accepted.ensures.answer c.room.ensures.look c.put.ensures.put took)

pub returns-else-accepts-clause-done : goal.returns-else-accepts-clause-done
returns-else-accepts-clause-done g c = λ some.
    let on : c.may_refuse-refuses.result ≡ true = grind (arith, common_steps) in
    let may = subst (λ (b : CellsView). MayRefuseAt b c.args.from c.args.place (Parcel c.args.direction c.args.amount c.args.label)) c.cells-2.ensures (c.may_refuse-refuses.ensures.0 on) in
    let is = subst (λ (b : CellsView). c.refusal-refused.result ≡ Refused (opposite (border_in b c.args.place).direction) c.args.amount c.args.label (label_in b (border_in b c.args.place).near)) c.cells-else-accepts.ensures c.refusal-refused.ensures in
    let took = c.take-else-accepts.ensures.take _ (c.put-else-accepts.ensures.put.front _ _ (c.room.ensures.look.front _ _ c.requires.front)) in
    inr (done_refuse c.args.cells.now.block _ _ _ _ c.args.from c.args.direction c.args.amount c.args.label c.args.place _
    may is c.room.ensures.look c.put-else-accepts.ensures.put took)
