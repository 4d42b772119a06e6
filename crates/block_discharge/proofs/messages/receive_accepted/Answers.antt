use Rattle.std.proofs.Common.{subst}
use Rattle.block_events.specs.declared.message.Message.TheVariants.{Accepted}
use Rattle.block_net.specs.Views.{CellsView}
use Rattle.block_discharge.specs.Steps.{MaySettleAt}
use Rattle.block_discharge.proofs.Receiving.{done_delivery, does_delivery}
use Rattle.block_discharge.proofs.messages.receive_accepted.Goals as goal

pub returns-clause-does : goal.returns-clause-does
returns-clause-does g c =
    does_delivery c.args.cells.now.block c.deliver_parcel.new.self.block _ _ c.args.from c.args.direction c.args.amount c.args.place (subst (λ (b : CellsView). MaySettleAt b c.args.from c.args.place (Accepted c.args.direction c.args.amount)) c.cells.ensures (c.may_deliver.ensures.0 c.if-not-may_deliver.false)) c.deliver_parcel.ensures.block (c.take.ensures.take _ c.requires.front)

pub returns-clause-done : goal.returns-clause-done
returns-clause-done g c = λ some.
    done_delivery c.args.cells.now.block c.deliver_parcel.new.self.block _ _ c.args.from c.args.direction c.args.amount c.args.place (subst (λ (b : CellsView). MaySettleAt b c.args.from c.args.place (Accepted c.args.direction c.args.amount)) c.cells.ensures (c.may_deliver.ensures.0 c.if-not-may_deliver.false)) c.deliver_parcel.ensures.block (c.take.ensures.take _ c.requires.front)
