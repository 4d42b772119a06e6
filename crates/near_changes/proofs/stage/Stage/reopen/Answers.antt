use Rattle.std.proofs.Common.{List, sym, subst}
use Rattle.move_energy.specs.declared.choice.Choice.{Choice}
use Rattle.near_changes.specs.Working.{LieWithin}
use Rattle.near_changes.proofs.Opens.{assigned_within}
use Rattle.near_changes.proofs.stage.Stage.reopen.Goals as goal

pub list_open-requires-clause-within : goal.list_open-requires-clause-within
list_open-requires-clause-within c =
    let a = c.args in
    let W : List Choice → Type 0 = λ xs. LieWithin a.window xs in
    let assigned = assigned_within a.window a.choices.now.items a.bits.now c.assign.new.choices.items c.assign.ensures in
    subst W (sym c.deref-4.ensures.value) (c.in_ok-open_rings.ensures.opened.within (c.open_all-2.ensures.opened.within (c.open_all.ensures.opened.within assigned)))
