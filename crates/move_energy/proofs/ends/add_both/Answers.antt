use Rattle.std.proofs.Common.{true, false, refl}
use Rattle.move_energy.proofs.Values.{both_add, ends_fit, ends_unfit, table_regular, regular_table}
use Rattle.move_energy.proofs.Steps.{longer_still}
use Rattle.std.proofs.lemmas.Result.{err_from_is_err_and}
use Rattle.move_energy.proofs.ends.add_both.Goals as goal

pub returns-clause-adds : goal.returns-clause-adds
returns-clause-adds g c = λ m answers.
    let a = c.args in
    let table = c.pair_table-table.ensures.table m answers in
    ends_fit a.weight m.smooth_cost a.change a.first a.second a.form.now c.add_pair.new.self true refl
    (λ one two. table_regular a.change a.weight a.first.label a.second.label m.smooth_cost c.pair_table-table.result table
    (c.is_regular_table.ensures.0 c.if-not-is_regular_table.false))
    (both_add a.form.now c.add_pair.new.self a.change a.weight m.smooth_cost a.first a.second c.pair_table-table.result
    c.requires.opened.0 c.requires.opened.1 table c.in_ok-add_pair.ensures.value)

pub pair_table-table-requires-clause-weight : goal.pair_table-table-requires-clause-weight
pair_table-table-requires-clause-weight g c = λ κs lives. c.requires.weight

pub pair_table-table-requires-clause-inside : goal.pair_table-table-requires-clause-inside
pair_table-table-requires-clause-inside g c = λ κs lives. c.requires.inside

pub add_pair-requires-clause-bounded : goal.add_pair-requires-clause-bounded
add_pair-requires-clause-bounded g c = c.requires.bounded

pub returns-in_err-add_pair-clause-longer : goal.returns-in_err-add_pair-clause-longer
returns-in_err-add_pair-clause-longer g c =
    let p = err_from_is_err_and c.from_residual.result c.from_residual.ensures.1 in
    rw (p.1) tt

pub returns-in_err-add_pair-clause-adds : goal.returns-in_err-add_pair-clause-adds
returns-in_err-add_pair-clause-adds g c =
    let p = err_from_is_err_and c.from_residual.result c.from_residual.ensures.1 in
    rw (p.1) tt

pub returns-then-not-is_regular_table-clause-longer : goal.returns-then-not-is_regular_table-clause-longer
returns-then-not-is_regular_table-clause-longer g c = longer_still _

pub returns-then-not-is_regular_table-clause-adds : goal.returns-then-not-is_regular_table-clause-adds
returns-then-not-is_regular_table-clause-adds g c = λ m answers.
    let a = c.args in
    let table = c.pair_table-table.ensures.table m answers in
    ends_unfit a.weight m.smooth_cost a.change a.first a.second a.form.now a.form.now false refl c.requires.opened.0 c.requires.opened.1
    (λ regular. (let yes = c.is_regular_table.ensures.1 (regular_table a.change a.weight a.first.label a.second.label m.smooth_cost c.pair_table-table.result table regular) in
    absurd (cc (yes, c.if-not-is_regular_table.true))))

pub add_pair-requires-clause-first : goal.add_pair-requires-clause-first
add_pair-requires-clause-first g c = c.requires.variables.0

pub add_pair-requires-clause-second : goal.add_pair-requires-clause-second
add_pair-requires-clause-second g c = c.requires.variables.1

pub add_pair-requires-clause-regular : goal.add_pair-requires-clause-regular
add_pair-requires-clause-regular g c = c.is_regular_table.ensures.0 c.if-not-is_regular_table.false
