use Rattle.std.proofs.Common.{length, refl}
use Rattle.move_energy.proofs.Opened.{opened_within}
use Rattle.near_changes.specs.Working.{KeepsZeros}
use Rattle.near_changes.proofs.Opens.{keeps_then}
use Rattle.near_changes.proofs.Seen.{on_ok_two}
use Rattle.near_swaps.proofs.Bounds.{raised_zeros}
use Rattle.near_swaps.proofs.looking.open_near.Goals as goal

pub set_listed-requires : goal.set_listed-requires
set_listed-requires c = opened_within c.args.choices.now.items c.args.own.now (length c.args.choices.now.items) c.requires.own refl

pub returns-clause-zeros : goal.returns-clause-zeros
returns-clause-zeros c =
    let old = c.args.choices.now.items in
    let now = c.set_listed.new.choices.items in
    let new = c.open_fresh.new.choices.items in
    let raised = raised_zeros old now c.args.own.now c.requires.own c.set_listed.ensures.count c.set_listed.ensures.listed c.set_listed.ensures.others in
    on_ok_two c.open_fresh.result (KeepsZeros now new) (KeepsZeros now new) (KeepsZeros old new) (λ keeps _. keeps_then old now new raised keeps)
    c.open_fresh.ensures.zeros c.open_fresh.ensures.zeros
