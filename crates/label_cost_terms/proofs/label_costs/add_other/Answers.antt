use Rattle.std.proofs.Common.{◌≡◌, ◌==◌, ℕ, ◌+◌, ◌<◌, ◌≤◌, Bool, false, not, List, All, length, vec_len, sym, ap, ◌∙◌, subst, arith}
use Rattle.std.specs.List.{list_all}
use Rattle.std.proofs.lemmas.List.Elements.{All-weaker}
use Rattle.std.proofs.lemmas.Result.{on_ok_weaker}
use Rattle.sums.specs.Sums.{count_if}
use Rattle.label_energies.specs.Energies.{labelling, is_used as is_used_in}
use Rattle.compile_cut.specs.Quadratics.{AddsLeast, IsTied}
use Rattle.move_energy.specs.Choices.{open_count}
use Rattle.move_energy.proofs.Adding.{on_ok_both}
use Rattle.label_cost_terms.specs.LabelCosts.{nodes_of, uses, AddsHidden}
use Rattle.label_cost_terms.proofs.Uses.{other_used, used_nowhere, never_used, nodes_below, nodes_most, open_where}
use Rattle.label_cost_terms.proofs.Costing.{adds_fixed, adds_tied, wider_tied}
use Rattle.label_energies.proofs.Energy.{is_equal}
use Rattle.label_cost_terms.proofs.label_costs.add_other.Goals as goal

pub returns-then-not-used-clause-adds : goal.returns-then-not-used-clause-adds
returns-then-not-used-clause-adds c =
    let f = c.args.expansion.now.at.now in
    let choices = c.args.expansion.now.variables.now.choices.items in
    let none : is_used_in (length f) (labelling f) c.args.label ≡ false = sym c.requires.used ∙ c.if-not-used.true in
    adds_fixed c.args.form.now (λ x. count_if (uses c.args.expansion.now.alpha f choices c.args.label x) c.args.cost) 0
    (λ x. ap (λ (b : Bool). count_if b c.args.cost) (never_used c.args.expansion.now.alpha (labelling f) choices c.args.label x (length f) c.requires.other
    (λ p l. used_nowhere (length f) (labelling f) c.args.label p none l)))

pub add_unless_all-requires-clause-nodes : goal.add_unless_all-requires-clause-nodes
add_unless_all-requires-clause-nodes c =
    let f = c.args.expansion.now.at.now in
    let choices = c.args.expansion.now.variables.now.choices.items in
    let chosen = λ (p : ℕ). labelling f p == c.args.label in
    let is : c.deref.result.now ≡ nodes_of chosen choices (length f) = c.deref.ensures.value ∙ c.in_ok-list_having.ensures in
    let P : List ℕ → Type 0 = λ nodes. All (λ (v : ℕ). v < vec_len c.args.form.now.weights) nodes in
    subst P (sym is) (All-weaker (λ (v : ℕ). v < open_count choices) (λ (v : ℕ). v < vec_len c.args.form.now.weights) (λ v l. omega (arith, l, c.requires.form.nodes))
    (nodes_of chosen choices (length f)) (nodes_below chosen choices (length f) (omega (arith, c.requires.opened.opened.count))
    (λ p l one. open_where c.args.expansion.now.alpha f choices p c.requires.opened.opened l (λ same. c.requires.other (sym (is_equal (labelling f p) c.args.label one) ∙ same)))))

pub returns-clause-wider : goal.returns-clause-wider
returns-clause-wider c =
    let f = c.args.expansion.now.at.now in
    let choices = c.args.expansion.now.variables.now.choices.items in
    let chosen = λ (p : ℕ). labelling f p == c.args.label in
    let is : c.deref.result.now ≡ nodes_of chosen choices (length f) = c.deref.ensures.value ∙ c.in_ok-list_having.ensures in
    let few : length c.deref.result.now ≤ length f = omega (arith, ap (λ (xs : List ℕ). length xs) is, nodes_most chosen choices (length f)) in
    on_ok_weaker c.add_unless_all.result (λ tied. wider_tied c.args.form.now c.add_unless_all.new.self (length c.deref.result.now) (length f) c.args.cost few
    (omega (arith, c.requires.opened.few)) (omega (arith, c.requires.cost)) tied) c.add_unless_all.ensures.tied

pub returns-clause-adds : goal.returns-clause-adds
returns-clause-adds c =
    let f = c.args.expansion.now.at.now in
    let choices = c.args.expansion.now.variables.now.choices.items in
    let chosen = λ (p : ℕ). labelling f p == c.args.label in
    let is : c.deref.result.now ≡ nodes_of chosen choices (length f) = c.deref.ensures.value ∙ c.in_ok-list_having.ensures in
    let told = λ (x : ℕ → Bool).
    ap (λ (xs : List ℕ). count_if (not (list_all x xs)) c.args.cost) is
    ∙ ap (λ (b : Bool). count_if b c.args.cost) (other_used c.args.expansion.now.alpha (labelling f) choices c.args.label x (length f) c.requires.other
    (λ p l has. open_where c.args.expansion.now.alpha f choices p c.requires.opened.opened l (λ same. c.requires.other (sym has ∙ same)))) in
    on_ok_both c.add_unless_all.result (IsTied (length c.deref.result.now + 1) c.args.cost c.args.form.now c.add_unless_all.new.self)
    (AddsLeast c.args.form.now c.add_unless_all.new.self (λ x. count_if (not (list_all x c.deref.result.now)) c.args.cost))
    (AddsHidden c.args.form.now c.add_unless_all.new.self (λ x. count_if (uses c.args.expansion.now.alpha f choices c.args.label x) c.args.cost))
    (λ tied adds. adds_tied c.args.form.now c.add_unless_all.new.self (length c.deref.result.now + 1) c.args.cost
    (λ x. count_if (not (list_all x c.deref.result.now)) c.args.cost) (λ x. count_if (uses c.args.expansion.now.alpha f choices c.args.label x) c.args.cost) tied adds told)
    c.add_unless_all.ensures.tied c.add_unless_all.ensures.value
