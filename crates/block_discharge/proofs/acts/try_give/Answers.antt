use Rattle.std.proofs.Common.{◌≡◌, ◌<◌, subst}
use Rattle.block_net.specs.Views.{CellsView, room_in, label_in}
use Rattle.block_discharge.proofs.Doing.{done_give, does_give}
use Rattle.block_discharge.proofs.acts.try_give.Goals as goal

pub returns-clause-does : goal.returns-clause-does
returns-clause-does c =
    let may = subst (λ (b : CellsView). (0 < room_in b c.args.v) × (label_in b c.args.v ≡ 1)) c.cells.ensures (c.may_give.ensures.0 c.if-not-may_give.false) in
    λ s. does_give c.args.cells.now.block c.give.new.self.block s c.args.v c.requires may.0 may.1 c.give.ensures.block

pub returns-clause-done : goal.returns-clause-done
returns-clause-done c =
    let may = subst (λ (b : CellsView). (0 < room_in b c.args.v) × (label_in b c.args.v ≡ 1)) c.cells.ensures (c.may_give.ensures.0 c.if-not-may_give.false) in
    λ some s. done_give c.args.cells.now.block c.give.new.self.block s c.args.v c.requires may.0 may.1 c.give.ensures.block
