use Rattle.std.proofs.Common.{subst}
use Rattle.block_net.specs.Views.{CellsView, MayPush}
use Rattle.block_discharge.proofs.Doing.{done_push, does_push}
use Rattle.block_discharge.proofs.acts.try_push.Goals as goal

pub returns-clause-does : goal.returns-clause-does
returns-clause-does c =
    let may = subst (λ (b : CellsView). MayPush b c.args.v c.args.j) c.cells.ensures (c.may_push.ensures.0 c.if-not-may_push.false) in
    λ s. does_push c.args.cells.now.block c.push.new.self.block s c.args.v c.args.j c.requires.active c.requires.lane may c.push.ensures.block

pub returns-clause-done : goal.returns-clause-done
returns-clause-done c =
    let may = subst (λ (b : CellsView). MayPush b c.args.v c.args.j) c.cells.ensures (c.may_push.ensures.0 c.if-not-may_push.false) in
    λ some s. done_push c.args.cells.now.block c.push.new.self.block s c.args.v c.args.j c.requires.active c.requires.lane may c.push.ensures.block
