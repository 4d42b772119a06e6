use Rattle.std.proofs.Common.{subst}
use Rattle.block_events.specs.declared.message.Message.TheVariants.{Refused}
use Rattle.block_net.specs.Views.{CellsView}
use Rattle.block_discharge.specs.Steps.{MaySettleAt}
use Rattle.block_discharge.proofs.Receiving.{done_return, does_return}
use Rattle.block_discharge.proofs.messages.receive_refused.Goals as goal

pub returns-clause-does : goal.returns-clause-does
returns-clause-does g c =
    does_return c.args.cells.now.block c.return_parcel.new.self.block _ _ c.args.from c.args.direction c.args.flight.amount c.args.flight.label c.args.told c.args.place
    (subst (λ (b : CellsView). MaySettleAt b c.args.from c.args.place (Refused c.args.direction c.args.flight.amount c.args.flight.label c.args.told)) c.cells.ensures (c.may_return.ensures.0 c.if-not-may_return.false)) c.return_parcel.ensures.block (c.take.ensures.take _ c.requires.front)

pub returns-clause-done : goal.returns-clause-done
returns-clause-done g c = λ some.
    done_return c.args.cells.now.block c.return_parcel.new.self.block _ _ c.args.from c.args.direction c.args.flight.amount c.args.flight.label c.args.told c.args.place
    (subst (λ (b : CellsView). MaySettleAt b c.args.from c.args.place (Refused c.args.direction c.args.flight.amount c.args.flight.label c.args.told)) c.cells.ensures (c.may_return.ensures.0 c.if-not-may_return.false)) c.return_parcel.ensures.block (c.take.ensures.take _ c.requires.front)
