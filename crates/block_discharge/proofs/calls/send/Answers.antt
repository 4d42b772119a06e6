use Rattle.std.proofs.Common.{◌∙◌, sym, subst}
use Rattle.block_net.specs.Views.{CellsView}
use Rattle.block_discharge.specs.Steps.{Send, IsSure}
use Rattle.block_discharge.specs.Calls.{Performs}
use Rattle.block_discharge.proofs.Calling.{known_alike, some_or_none}
use Rattle.block_discharge.proofs.calls.send.Goals as goal

pub invariant_of-block : goal.invariant_of-block
invariant_of-block g c = known_alike c.block.inside.cells.block c.try_send.new.cells.block c.block.inside.others.items c.try_send.ensures.does.alike c.block.invariant

pub returns-clause-sent : goal.returns-clause-sent
returns-clause-sent g c =
    let told = c.try_send.ensures in
    let was = g.W.Ways.seen c.args.ways.now in
    let now = g.W.Ways.seen c.try_send.new.ways in
    some_or_none c.try_send.result _ _
    (λ some. subst (λ (b : CellsView). Performs b was (Send c.args.v c.args.j) c.try_send.new.cells.block now) c.block.view_is (told.done some))
    (λ none.
    let still = told.does.still none in (
      λ on. told.idle none (subst (λ (b : CellsView). IsSure b was (Send c.args.v c.args.j)) (sym c.block.view_is) on),
      record { block = still.0 ∙ c.block.view_is; look = still.1 },
    ))
