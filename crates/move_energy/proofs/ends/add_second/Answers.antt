use Rattle.std.proofs.Common.{◌∙◌, ap, pos, Bool, w64, FitsSigned, true, false}
use Rattle.std.proofs.lemmas.Int.{to_z-of_z}
use Rattle.label_energies.specs.Moves.{label_after}
use Rattle.move_energy.proofs.Values.{one_adds, label_below}
use Rattle.move_energy.proofs.Steps.{longer_term}
use Rattle.move_energy.proofs.ends.add_second.Goals as goal

pub returns-clause-longer : goal.returns-clause-longer
returns-clause-longer g c = longer_term _ _ c.add_one.ensures.len c.add_one.ensures.bounded

pub returns-clause-adds : goal.returns-clause-adds
returns-clause-adds g c =
    let a = c.args in
    let stays : FitsSigned w64 c.pair_cost-stays.result = record { sfits = c.pair_cost-stays.type_inv } in
    let turns : FitsSigned w64 c.pair_cost-turns.result = record { sfits = c.pair_cost-turns.type_inv } in
    λ m answers.
    one_adds a.form.now c.add_one.new.self a.end.variable (λ (b : Bool). m.smooth_cost a.weight a.other (label_after a.change a.end.label b)) _ _
    (to_z-of_z w64 c.pair_cost-stays.result stays ∙ c.pair_cost-stays.ensures.cost m answers ∙ ap (λ l. pos (m.smooth_cost a.weight a.other l)) c.label.ensures)
    (to_z-of_z w64 c.pair_cost-turns.result turns ∙ c.pair_cost-turns.ensures.cost m answers ∙ ap (λ l. pos (m.smooth_cost a.weight a.other l)) c.label-2.ensures)
    c.add_one.ensures.value

pub pair_cost-stays-requires-clause-weight : goal.pair_cost-stays-requires-clause-weight
pair_cost-stays-requires-clause-weight g c = λ κs lives. c.requires.weight

pub pair_cost-turns-requires-clause-weight : goal.pair_cost-turns-requires-clause-weight
pair_cost-turns-requires-clause-weight g c = λ κs lives. c.requires.weight

pub add_one-requires-clause-bounded : goal.add_one-requires-clause-bounded
add_one-requires-clause-bounded g c = c.requires.bounded

pub pair_cost-stays-requires-clause-inside : goal.pair_cost-stays-requires-clause-inside
pair_cost-stays-requires-clause-inside g c = λ κs lives. (c.requires.inside.1, label_below _ c.args.change c.args.end.label c.label.result false c.requires.change c.requires.inside.0 c.label.ensures)

pub pair_cost-turns-requires-clause-inside : goal.pair_cost-turns-requires-clause-inside
pair_cost-turns-requires-clause-inside g c = λ κs lives. (c.requires.inside.1, label_below _ c.args.change c.args.end.label c.label-2.result true c.requires.change c.requires.inside.0 c.label-2.ensures)

pub add_one-requires-clause-first : goal.add_one-requires-clause-first
add_one-requires-clause-first g c = c.requires.variable
