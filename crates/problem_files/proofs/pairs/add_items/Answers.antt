use Rattle.problem_files.proofs.LabelItemLemmas.{read_step}
use Rattle.problem_files.proofs.pairs.add_items.Goals as goal

pub loop-place-preserved : goal.loop-place-preserved
loop-place-preserved c =
    let items = c.deref-item-items.ensures.value in
    read_step _ _ _ _ _ _ (rw items at c.loop-place-test.true) (rw items at c.item-item.is) c.loop-place.invariant c.in_ok-add_item.ensures.ok
