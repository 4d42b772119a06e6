use Rattle.std.proofs.Common.{◌∙◌, sym, ap, subst}
use Rattle.block_net.specs.Views.{CellsView, MayPush}
use Rattle.block_discharge.specs.Standing.{BucketedView}
use Rattle.block_discharge.specs.Steps.{Push}
use Rattle.block_discharge.specs.Calls.{Performs}
use Rattle.block_discharge.proofs.Runs.{no_seen}
use Rattle.block_discharge.proofs.Calling.{known_alike, some_or_none}
use Rattle.block_discharge.proofs.calls.push_inner.Goals as goal

pub invariant_of-block : goal.invariant_of-block
invariant_of-block c = known_alike c.block.inside.cells.block c.try_push.new.cells.block c.block.inside.others.items (c.try_push.ensures.does no_seen).alike c.block.invariant

pub returns : goal.returns
returns c =
    let told = c.try_push.ensures in
    some_or_none c.try_push.result _ _
    (λ some s. subst (λ (b : CellsView). Performs b s (Push c.args.v c.args.j) c.try_push.new.cells.block s) c.block.view_is (told.done some s))
    (λ none. (
      λ on. told.idle none (subst (λ (b : CellsView). MayPush b c.args.v c.args.j) (sym c.block.view_is) on.2),
      ap (λ (b : BucketedView). b.block) (told.still none) ∙ c.block.view_is,
    ))
