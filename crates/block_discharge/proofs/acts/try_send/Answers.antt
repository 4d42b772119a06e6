use Rattle.std.proofs.Common.{subst}
use Rattle.block_net.specs.Views.{CellsView, MaySend}
use Rattle.block_discharge.proofs.Doing.{done_send, does_send}
use Rattle.block_discharge.proofs.acts.try_send.Goals as goal

pub returns-clause-does : goal.returns-clause-does
returns-clause-does g c =
    let may = subst (λ (b : CellsView). MaySend b c.args.v c.args.j) c.cells.ensures (c.may_send.ensures.0 c.if-not-may_send.false) in
    does_send c.args.cells.now.block c.send.new.self.block _ _ _ c.args.v c.args.j c.border-border.result c.send.result c.requires.active c.requires.border
    may c.border-border.ensures.value c.send.ensures.parcel c.send.ensures.block c.room.ensures.look c.put.ensures.put

pub returns-clause-done : goal.returns-clause-done
returns-clause-done g c =
    let may = subst (λ (b : CellsView). MaySend b c.args.v c.args.j) c.cells.ensures (c.may_send.ensures.0 c.if-not-may_send.false) in
    λ some. done_send c.args.cells.now.block c.send.new.self.block _ _ _ c.args.v c.args.j c.border-border.result c.send.result c.requires.active c.requires.border
    may c.border-border.ensures.value c.send.ensures.parcel c.send.ensures.block c.room.ensures.look c.put.ensures.put
