use Rattle.std.proofs.Common.{◌≡◌, ◌∙◌, ℕ, ℤ, pos, ◌-ℤ◌, List, set, length, ap, refl, subst, arith}
use Rattle.std.specs.Prelude.{◌&&◌, not}
use Rattle.std.specs.Vec.{with_items}
use Rattle.std.proofs.lemmas.List.{with_items_is}
use Rattle.sums.specs.Sums.{count_if}
use Rattle.pseudo_bool.specs.Energies.{entry}
use Rattle.compile_cut.specs.Weights.{source_part}
use Rattle.move_energy.proofs.Weighed.{surplus_passed}
use Rattle.move_energy.specs.Built.{AddsCost}
use Rattle.strip_nets.specs.declared.material.RowForm.{RowForm}
use Rattle.strip_nets.specs.RowForms.{arcs_in, form_in}
use Rattle.strip_nets.proofs.Saving.{next_of, near_place, far_place, saving_laid, saving_ends, saving_costs}
use Rattle.strip_nets.proofs.rows.put_saving.Goals as goal

pub put-requires-clause-near : goal.put-requires-clause-near
put-requires-clause-near c =
    let r = c.requires.laid in
    near_place r.0 c.args.first c.args.second r.1 (arcs_in c.args.form.now) _ _ _ _ r.2.laid (next_of r.1 (arcs_in c.args.form.now) c.args.first c.args.second r.3) r.4

pub put-requires-clause-far : goal.put-requires-clause-far
put-requires-clause-far c =
    let r = c.requires.laid in
    far_place r.0 c.args.first c.args.second r.1 (arcs_in c.args.form.now) _ _ _ _ r.2.laid (next_of r.1 (arcs_in c.args.form.now) c.args.first c.args.second r.3) c.requires.apart r.5

pub put-requires-clause-few : goal.put-requires-clause-few
put-requires-clause-few c = c.requires.laid.2.laid.rows.few

pub returns-clause-laid : goal.returns-clause-laid
returns-clause-laid c = λ n ends laid begins.
    let old = c.args.form.now in
    let given = c.as_mut_slice.ensures.value in
    let long : length c.lessen.new.weights ≡ old.weights.len = omega (arith, c.lessen.auto.weights, c.as_mut_slice.ensures.len) in
    let items = with_items_is old.weights c.lessen.new.weights long in
    let s = c.amount_above-amount.result in
    let new : RowForm = record { weights = with_items old.weights c.lessen.new.weights; laying = c.put.new.self } in
    let part = c.in_ok-put.ensures n ends (arcs_in old) laid.laid (next_of ends (arcs_in old) c.args.first c.args.second begins) in
    let less : new.weights.items ≡ set old.weights.items c.args.second (entry old.weights.items c.args.second -ℤ pos s) =
    items ∙ c.lessen.ensures ∙ ap (λ (ws : List ℤ). set ws c.args.second (entry ws c.args.second -ℤ pos s)) given in
    saving_laid n c.args.first c.args.second s ends old new laid c.amount_above-amount.ensures.small (omega (arith, c.requires.laid.4, c.requires.laid.2.nodes, laid.nodes)) (omega (arith, c.requires.laid.5, c.requires.laid.2.nodes, laid.nodes)) part refl less

pub returns-clause-ends : goal.returns-clause-ends
returns-clause-ends c = λ n ends laid begins.
    let old = c.args.form.now in
    let new : RowForm = record { weights = with_items old.weights c.lessen.new.weights; laying = c.put.new.self } in
    saving_ends n c.args.first c.args.second c.amount_above-amount.result ends old new
    (c.in_ok-put.ensures n ends (arcs_in old) laid.laid (next_of ends (arcs_in old) c.args.first c.args.second begins))

pub returns-clause-adds : goal.returns-clause-adds
returns-clause-adds c = λ n ends laid begins.
    let old = c.args.form.now in
    let given = c.as_mut_slice.ensures.value in
    let long : length c.lessen.new.weights ≡ old.weights.len = omega (arith, c.lessen.auto.weights, c.as_mut_slice.ensures.len) in
    let items = with_items_is old.weights c.lessen.new.weights long in
    let s = c.amount_above-amount.result in
    let new : RowForm = record { weights = with_items old.weights c.lessen.new.weights; laying = c.put.new.self } in
    let part = c.in_ok-put.ensures n ends (arcs_in old) laid.laid (next_of ends (arcs_in old) c.args.first c.args.second begins) in
    let less : new.weights.items ≡ set old.weights.items c.args.second (entry old.weights.items c.args.second -ℤ pos s) =
    items ∙ c.lessen.ensures ∙ ap (λ (ws : List ℤ). set ws c.args.second (entry ws c.args.second -ℤ pos s)) given in
    subst (λ (k : ℕ). AddsCost (form_in old) (form_in new) (λ x. count_if (not (x c.args.first && x c.args.second)) k)) (c.amount_above-amount.ensures.amount ∙ ap source_part (surplus_passed c.args.surplus c.requires.surplus))
    (saving_costs n c.args.first c.args.second s ends old new laid (omega (arith, c.requires.laid.5, c.requires.laid.2.nodes, laid.nodes)) part less)
