use Rattle.std.proofs.Common.{rules}
use Rattle.problem_files.proofs.EnergyItemLemmas.{all_read, first_fault, none_read, read_step}
use Rattle.problem_files.proofs.energy.add_items.Goals as goal

pub loop-place-init : goal.loop-place-init
loop-place-init c = none_read c.args.energy.now c.args.items.now.items c.requires.empty

pub loop-place-preserved : goal.loop-place-preserved
loop-place-preserved c =
    let items = c.deref-item-items.ensures.value in
    read_step _ _ _ _ _ _ (rw items at c.loop-place-test.true) (rw items at c.item-item.is) c.loop-place.invariant c.in_ok-add_term.ensures.ok

pub returns-in_err-add_term-clause-refused : goal.returns-in_err-add_term-clause-refused
returns-in_err-add_term-clause-refused c =
    let items = c.deref-item-items.ensures.value in
    let first = first_fault _ _ _ _ _ _ (rw items at c.loop-place-test.true) (rw items at c.item-item.is) c.loop-place.invariant c.in_err-add_term.ensures.refused in
    search rules

pub returns-clause-ok : goal.returns-clause-ok
returns-clause-ok c =
    let items = c.deref-item-items.ensures.value in
    all_read _ _ _ _ c.requires.empty (rw items at c.loop-place-test.false) c.loop-place.invariant
